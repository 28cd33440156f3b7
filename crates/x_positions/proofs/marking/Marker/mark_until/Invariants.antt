use Rattle.std.proofs.Common.{◌≡◌, ◌≤◌, ◌-◌}
use Rattle.x_positions.proofs.marking.Marker.mark_until.Given as goal

abbrev pub invariant-marks : goal.invariant-marks
invariant-marks l = record {
  text : l.self.text.now ≡ l.fn.self.text.now;
  encoding : l.self.encoding ≡ l.fn.self.encoding;
  before : l.self.last.at ≤ l.at;
}

abbrev pub decreases-marks : goal.decreases-marks
decreases-marks l = l.at - l.self.last.at
