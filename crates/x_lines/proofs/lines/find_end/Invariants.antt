use Rattle.std.proofs.Common.{◌≡◌}
use Rattle.x_lines.specs.Lines.{HasSearched, HasNoFeed}
use Rattle.x_lines.proofs.lines.find_end.Given as goal

abbrev pub invariant-pieces : goal.invariant-pieces
invariant-pieces g l = record {
  come : HasSearched l.fn.queue l.queue (g.R.Tap.state l.fn.tap).bytes (g.R.Tap.state l.tap).bytes;
  no_feed : HasNoFeed l.queue;
  failed : (g.R.Tap.state l.tap).failed ≡ (g.R.Tap.state l.fn.tap).failed;
}
