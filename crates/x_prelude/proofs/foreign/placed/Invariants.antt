use Rattle.std.proofs.Common.{◌≡◌, ℕ, List, ◌++◌, map}
use Rattle.std.specs.List.{flat_map}
use Rattle.x_compile.specs.Compile.{Item}
use Rattle.x_session.specs.DeclaredNames.{IsTableOf}
use Rattle.x_session.specs.Foreign.{view_all}
use Rattle.x_prelude.specs.Foreign.{foreign_at}
use Rattle.x_prelude.specs.Lacking.{Occurrence, first_of_each}
use Rattle.x_prelude.specs.LackingTable.{HasNames, view_use}
use Rattle.x_prelude.proofs.foreign.placed.Given as goal

-- with the names that are left behind it, the list is what it is to be
abbrev pub invariant-loop-first : goal.invariant-loop-first
invariant-loop-first l = (text : List ℕ) (items : List Item) (all : List Occurrence)
    → IsTableOf text items l.declared → HasNames l.lacks all
    → view_all l.names.items ++ flat_map (foreign_at l.from_c text items) (map view_use l.first-iterator)
    ≡ flat_map (foreign_at l.from_c text items) (first_of_each all)
