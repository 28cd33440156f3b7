use Rattle.std.proofs.Common.{◌≡◌, false}
use Rattle.serde_json.specs.View.{items_view}
use Rattle.serde_json.specs.Written.{items_have_float}
use Rattle.x_questions.proofs.locations.places_value.Given as goal

abbrev pub invariant-loop-token : goal.invariant-loop-token
invariant-loop-token l = items_have_float (items_view l.list.items) ≡ false
