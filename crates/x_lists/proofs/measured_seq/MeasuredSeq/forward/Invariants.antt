use Rattle.std.proofs.Common.{◌≡◌}
use Rattle.x_lists.specs.Lengths.{length_before}
use Rattle.x_lists.proofs.measured_seq.MeasuredSeq.forward.Given as goal

abbrev pub invariant-loop-index : goal.invariant-loop-index
invariant-loop-index g l = l.end ≡ length_before g.T.Measured.length l.self.list l.index
