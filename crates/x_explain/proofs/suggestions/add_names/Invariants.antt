use Rattle.std.proofs.Common.{◌≡◌, ◌≤◌, ◌++◌, length, map, take}
use Rattle.std.specs.Cow.{cow_slice_items}
use Rattle.x_explain.proofs.SuggestionLemmas.{bare}
use Rattle.x_explain.proofs.suggestions.add_names.Given as goal

-- the names so far, and those that are left
abbrev pub invariant-loop-declared : goal.invariant-loop-declared
invariant-loop-declared l = length l.fn.names.items ≤ 1024 → (length l.names.items ≤ 1024)
    × (take 1024 (map cow_slice_items l.names.items ++ bare l.declared-iterator.rest.items)
    ≡ take 1024 (map cow_slice_items l.fn.names.items ++ bare l.initial.declared-iterator.rest.items))
