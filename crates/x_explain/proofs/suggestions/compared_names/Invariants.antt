use Rattle.std.proofs.Common.{map}
use Rattle.std.specs.Cow.{cow_slice_items}
use Rattle.x_explain.proofs.SuggestionLemmas.{HasNames}
use Rattle.x_explain.proofs.suggestions.compared_names.Given as goal

abbrev pub invariant-loop-item : goal.invariant-loop-item
invariant-loop-item l =
    HasNames l.session.known l.session.text l.item (map cow_slice_items l.names.items)
