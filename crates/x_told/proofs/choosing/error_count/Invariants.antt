use Rattle.std.proofs.Common.{◌≡◌, ◌≤◌, length, take}
use Rattle.std.specs.List.{filter}
use Rattle.x_told.specs.Choosing.{is_error}
use Rattle.x_told.proofs.choosing.error_count.Given as goal

-- those of the faults so far
abbrev pub invariant-loop-fault : goal.invariant-loop-fault
invariant-loop-fault l = record {
  counted : l.count ≡ length (filter is_error (take l.fault-index l.told));
  few : l.count ≤ l.fault-index;
}
