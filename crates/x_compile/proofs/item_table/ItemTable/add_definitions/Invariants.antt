use Rattle.std.proofs.Common.{◌≡◌, ◌++◌, map}
use Rattle.x_trees.specs.View.{tree_at}
use Rattle.x_compile.specs.KeptView.{entry_definitions}
use Rattle.x_compile.proofs.item_table.ItemTable.add_definitions.Given as goal

-- the definitions so far and those of the items that are left
abbrev pub invariant-loop-entry : goal.invariant-loop-entry
invariant-loop-entry l = map tree_at l.definitions.items ++ entry_definitions l.entry-iterator
    ≡ map tree_at l.fn.definitions.items ++ entry_definitions l.initial.entry-iterator
