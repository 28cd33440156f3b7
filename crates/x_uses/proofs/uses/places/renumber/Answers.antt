use Rattle.std.proofs.Common.{◌≡◌, ap, ◌∙◌, arith}
use Rattle.std.proofs.Common.{set}
use Rattle.std.proofs.lemmas.List.Edits.{map_over_more}
use Rattle.x_uses.specs.Slots.{number_after}
use Rattle.x_uses.proofs.uses.places.renumber.Goals as goal

pub loop-index-preserved : goal.loop-index-preserved
loop-index-preserved g c =
    let xs = c.args.places.now in
    let ys = c.loop-index.places in
    let i = c.loop-index.index in
    let x = c.index-places-index.result in
    let put = g.T.AtItem.put in
    let item_of = g.T.AtItem.item_of in
    let p = c.args.place in
    let is : c.at_item.result ≡ put (number_after p (item_of x)) x = c.at_item.ensures
    ∙ ap (λ k. put k x) (c.number_after.ensures ∙ ap (number_after p) c.item.ensures) in
    ap (set ys i) is ∙ map_over_more (λ y. put (number_after p (item_of y)) y) xs ys i x
    (omega arith) c.loop-index.invariant c.index-places-index.is
