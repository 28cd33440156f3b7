use Rattle.std.proofs.Common.{◌≡◌, Err}
use Rattle.x_lines.specs.declared.lines.LineFault.TheVariants.{NoMemory}
use Rattle.x_lines.specs.Lines.{HasPassed}
use Rattle.x_lines.proofs.lines.pass_feed.Given as goal

abbrev pub invariant-pieces : goal.invariant-pieces
invariant-pieces g l = record {
  passed : HasPassed l.fn.queue l.queue (g.R.Tap.state l.fn.tap).bytes (g.R.Tap.state l.tap).bytes
      (Err NoMemory);
  failed : (g.R.Tap.state l.tap).failed ≡ (g.R.Tap.state l.fn.tap).failed;
}
