use Rattle.std.proofs.Common.{◌≡◌, take}
use Rattle.x_cutting.specs.ItemList as items
use Rattle.x_compile.specs.Counting.{own_faults}
use Rattle.x_follow.proofs.counting.fresh_faults.Given as goal

-- the faults of the fresh items so far
abbrev pub invariant-loop-index : goal.invariant-loop-index
invariant-loop-index l = l.count ≡ own_faults (take l.index (items.kept l.patch.fresh))
