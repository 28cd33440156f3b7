use Rattle.std.proofs.Common.{◌≡◌, ℕ, List, map, drop}
use Rattle.x_names.specs.Declarers.{AreShort, first_from}
use Rattle.x_names.specs.DeclarerTable.{entry_in}
use Rattle.x_trees.specs.View.{tree_at}
use Rattle.x_names.proofs.names.table_of.Given as goal

-- the table has what the items from this one on declare
abbrev pub invariant-loop-item : goal.invariant-loop-item
invariant-loop-item l = AreShort (map tree_at l.definitions) → (name : List ℕ)
    → entry_in l.table.entries name ≡ first_from l.item (map tree_at (drop l.item l.definitions)) name
