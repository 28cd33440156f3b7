use Rattle.std.proofs.Common.{◌≡◌}
use Rattle.x_positions.proofs.marking.Marker.mark_moved.Given as goal

abbrev pub invariant-loop-mark : goal.invariant-loop-mark
invariant-loop-mark l = record {
  text : l.self.text.now ≡ l.fn.self.text.now;
  encoding : l.self.encoding ≡ l.fn.self.encoding;
}
