use Rattle.std.proofs.Common.{◌≡◌, ◌≤◌, length}
use Rattle.x_lists.specs.Lengths.{length_before}
use Rattle.x_lists.proofs.measured_seq.MeasuredSeq.go_back.Given as goal

abbrev pub invariant-loop-index : goal.invariant-loop-index
invariant-loop-index g l =
    record {
      within : l.index ≤ length l.self.list;
      place_is : l.place ≡ length_before g.T.Measured.length l.self.list l.index;
    }

abbrev pub decreases-loop-index : goal.decreases-loop-index
decreases-loop-index g l = l.index
