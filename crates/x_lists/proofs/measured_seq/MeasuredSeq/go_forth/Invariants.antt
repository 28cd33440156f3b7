use Rattle.std.proofs.Common.{◌≡◌, ◌-◌, ◌<◌, ◌≤◌}
use Rattle.x_lists.specs.Lengths.{length_before}
use Rattle.x_lists.proofs.measured_seq.MeasuredSeq.go_forth.Given as goal

abbrev pub invariant-loop-index : goal.invariant-loop-index
invariant-loop-index g l = record {
  within : l.index ≤ l.most;
  place_is : l.place ≡ length_before g.T.Measured.length l.self.list l.index;
  before : 0 < l.index → l.place < l.limit;
}

abbrev pub decreases-loop-index : goal.decreases-loop-index
decreases-loop-index g l = l.most - l.index
