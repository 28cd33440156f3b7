use Rattle.std.proofs.Common.{◌≡◌, List, ◌++◌, map}
use Rattle.std.specs.List.{enumerate_from, flat_map}
use Rattle.x_prelude.specs.Lacking.{Occurrence}
use Rattle.x_prelude.specs.LackingTable.{HasNames, view_use}
use Rattle.x_prelude.specs.Prelude.{definition_of, definitions_of_names}
use Rattle.x_prelude.proofs.prelude.add_definitions.Given as goal

-- with the definitions of the names that are left behind it, the text is what it is to be
abbrev pub invariant-loop-number : goal.invariant-loop-number
invariant-loop-number l = (all : List Occurrence) → HasNames l.lacks all
    → l.text.items ++ flat_map (λ e. definition_of l.from all e.0 e.1)
    (enumerate_from l.number-iterator.count (map view_use l.number-iterator.iter))
    ≡ l.fn.text.items ++ definitions_of_names l.from all
