use Rattle.std.proofs.Common.{◌≡◌}
use Rattle.x_frames.specs.FrameSteps.{HasCome}
use Rattle.x_frames.proofs.framing.read_head.Given as goal

abbrev pub invariant-pieces : goal.invariant-pieces
invariant-pieces g l = record {
  come : HasCome l.fn.buffer.items l.buffer.items (g.R.Tap.state l.fn.tap).bytes (g.R.Tap.state l.tap).bytes;
  failed : (g.R.Tap.state l.tap).failed ≡ (g.R.Tap.state l.fn.tap).failed;
}
