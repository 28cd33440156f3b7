use Rattle.std.proofs.Common.{◌≡◌, ◌-◌, map, take, drop}
use Rattle.x_trees.specs.View.{tree_at}
use Rattle.x_compile.specs.KeptView.{entry_definitions}
use Rattle.x_follow.proofs.naming.removed_definitions.Given as goal

abbrev pub invariant-loop-index : goal.invariant-loop-index
invariant-loop-index l = map tree_at l.definitions.items
    ≡ take (l.index - l.patch.at) (drop l.patch.at (entry_definitions l.items.list))
