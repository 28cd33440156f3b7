use Rattle.std.proofs.Common.{◌≡◌, drop}
use Rattle.serde_json.specs.View.{items_view}
use Rattle.x_published.specs.Clients.{offers_utf8}
use Rattle.x_published.proofs.client.offers_utf8.Given as goal

abbrev pub invariant-loop-offer : goal.invariant-loop-offer
invariant-loop-offer l = offers_utf8 (items_view (drop l.offer-index l.offer-items)) ≡ offers_utf8
    (items_view l.offer-items)
