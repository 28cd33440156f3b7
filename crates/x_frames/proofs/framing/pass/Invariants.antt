use Rattle.std.proofs.Common.{◌≡◌, ◌-◌, ◌≤◌}
use Rattle.x_frames.specs.FrameSteps.{HasPassed}
use Rattle.x_frames.proofs.framing.pass.Given as goal

abbrev pub invariant-pieces : goal.invariant-pieces
invariant-pieces g l = record {
  passed : HasPassed (l.fn.count - l.left) l.fn.buffer.items l.buffer.items (g.R.Tap.state l.fn.tap).bytes
      (g.R.Tap.state l.tap).bytes;
  within : l.left ≤ l.fn.count;
  failed : (g.R.Tap.state l.tap).failed ≡ (g.R.Tap.state l.fn.tap).failed;
}
