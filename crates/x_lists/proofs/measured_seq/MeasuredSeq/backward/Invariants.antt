use Rattle.std.proofs.Common.{◌≡◌, ◌+◌}
use Rattle.x_lists.specs.Lengths.{length_before}
use Rattle.x_lists.proofs.measured_seq.MeasuredSeq.backward.Given as goal

abbrev pub invariant-loop-index : goal.invariant-loop-index
invariant-loop-index g l = l.taken + length_before g.T.Measured.length l.self.list l.to
    ≡ length_before g.T.Measured.length l.self.list l.index
