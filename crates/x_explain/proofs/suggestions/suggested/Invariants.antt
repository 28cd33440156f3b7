use Rattle.std.proofs.Common.{◌≡◌, ◌++◌, map, drop}
use Rattle.std.specs.Cow.{cow_slice_items}
use Rattle.x_explain.specs.Suggestions.{suggested, view_suggestion}
use Rattle.x_explain.proofs.suggestions.suggested.Given as goal

-- what is suggested so far, and for the words that are left
abbrev pub invariant-loop-word : goal.invariant-loop-word
invariant-loop-word l = map view_suggestion l.list.items
    ++ map (suggested l.text (map cow_slice_items l.names)) (drop l.word-index l.found)
    ≡ map (suggested l.text (map cow_slice_items l.names)) l.found
