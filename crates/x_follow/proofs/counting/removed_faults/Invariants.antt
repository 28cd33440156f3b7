use Rattle.std.proofs.Common.{◌≡◌, ◌-◌, take, drop}
use Rattle.x_cutting.specs.ItemList as items
use Rattle.x_compile.specs.Counting.{own_faults}
use Rattle.x_follow.proofs.counting.removed_faults.Given as goal

-- the faults of the items so far that go
abbrev pub invariant-loop-index : goal.invariant-loop-index
invariant-loop-index l =
    l.count ≡ own_faults (take (l.index - l.patch.at) (drop l.patch.at (items.kept l.items.list)))
