use Rattle.std.proofs.Common.{◌∙◌}
use Rattle.x_lines.proofs.SearchLemmas.{passed_feed, passed_more}
use Rattle.x_lines.proofs.lines.pass_feed.Goals as goal

pub returns-then-drop_feed-2-clause-passed : goal.returns-then-drop_feed-2-clause-passed
returns-then-drop_feed-2-clause-passed g c =
    passed_feed c.args.queue.now c.pieces.queue c.read.new.self c.drop_feed-in-pieces.new.queue
    (g.R.Tap.state c.args.tap.now).bytes (g.R.Tap.state c.pieces.tap).bytes
    (g.R.Tap.state c.read.new.tap).bytes c.in_ok-read.field-0
    c.pieces.invariant.passed c.in_ok-read.ensures.come c.if-drop_feed-2.ensures

pub pieces-preserved : goal.pieces-preserved
pieces-preserved g c = record {
  passed = passed_more c.args.queue.now c.pieces.queue c.read.new.self c.drop_feed-in-pieces.new.queue
      (g.R.Tap.state c.args.tap.now).bytes (g.R.Tap.state c.pieces.tap).bytes
      (g.R.Tap.state c.read.new.tap).bytes c.in_ok-read.field-0
      c.pieces.invariant.passed c.in_ok-read.ensures.come c.if-drop_feed-2.ensures.0
      c.if-drop_feed-2.ensures.1;
  failed = c.in_ok-read.ensures.failed ∙ c.pieces.invariant.failed;
}
