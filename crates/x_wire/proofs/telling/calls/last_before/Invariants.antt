use Rattle.std.proofs.Common.{◌≡◌, ◌≤◌, ◌^◌, length}
use Rattle.x_wire.specs.LastCalls.{last_in}
use Rattle.x_wire.proofs.telling.calls.last_before.Given as goal

abbrev pub invariant-loop-last : goal.invariant-loop-last
invariant-loop-last l = record {
  same : last_in 0 l.left l.xid ≡ last_in 0 l.before l.xid;
  few : length l.left ≤ 2 ^ 32;
}

abbrev pub decreases-loop-last : goal.decreases-loop-last
decreases-loop-last l = length l.left
