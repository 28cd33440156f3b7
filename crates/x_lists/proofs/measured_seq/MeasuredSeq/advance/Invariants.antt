use Rattle.std.proofs.Common.{◌≡◌, ℕ, ◌-◌, ◌<◌, ◌≤◌}
use Rattle.x_lists.specs.Lengths.{length_before}
use Rattle.x_lists.proofs.measured_seq.MeasuredSeq.advance.Given as goal

abbrev pub invariant-loop-index : goal.invariant-loop-index
invariant-loop-index g l = record {
  forward : l.from ≤ l.index;
  within : l.index ≤ l.most;
  place_is : l.end ≡ length_before g.T.Measured.length l.self.list l.index;
  below : (j : ℕ) → l.from ≤ j → j < l.index → length_before g.T.Measured.length l.self.list j < l.target;
}

abbrev pub decreases-loop-index : goal.decreases-loop-index
decreases-loop-index g l = l.most - l.index
