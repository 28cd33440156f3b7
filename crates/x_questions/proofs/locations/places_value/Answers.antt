use Rattle.std.proofs.Common.{◌∙◌, ◌∷◌, [], ap, map}
use Rattle.serde_json.specs.View.{items_of, items_view, view}
use Rattle.serde_json.specs.Written.{items_have_float}
use Rattle.x_lists.proofs.ListLemmas.{map_append}
use Rattle.x_frames.proofs.JsonLemmas.{plain_more}
use Rattle.x_questions.proofs.locations.places_value.Goals as goal

pub loop-token-preserved : goal.loop-token-preserved
loop-token-preserved c =
    ap (λ l. items_have_float (items_view l)) c.in_ok-push.ensures.ok
    ∙ ap (λ l. items_have_float (items_of l)) (map_append view c.loop-token.list.items
    (c.in_ok-place_value.field-0 ∷ []))
    ∙ plain_more (map view c.loop-token.list.items)
    (view c.in_ok-place_value.field-0) c.loop-token.invariant c.in_ok-place_value.ensures
