use Rattle.std.proofs.Common.{[], ◌∙◌, ap, sym, subst, Ok}
use Rattle.x_lines.specs.declared.lines.State.TheVariants.{WithinLong}
use Rattle.x_lines.specs.Lines.{HasPassed}
use Rattle.x_lines.proofs.ReadingLemmas.{unread_in, long_feed, long_end, long_open}
use Rattle.x_lines.proofs.lines.LineReader.end_of_long.Goals as goal

pub returns-in_err-pass_feed-clause-lines : goal.returns-in_err-pass_feed-clause-lines
returns-in_err-pass_feed-clause-lines g c unread is =
    long_open c.drop_front.new.self c.pass_feed.new.queue unread (g.R.Tap.state c.args.tap.now).bytes
    (g.R.Tap.state c.pass_feed.new.tap).bytes
    (unread_in c.args.self.now WithinLong c.drop_front.new.self (g.R.Tap.state c.args.tap.now).bytes unread
    c.requires (sym (ap (λ r. r.bytes) c.self.view_is) ∙ sym c.drop_front.ensures) is)
    [] c.self.inside.state c.in_err-pass_feed.field-0.0 c.from_residual.result
    (ap (λ r. r.state) c.self.view_is ∙ c.requires) c.from_residual.ensures.0
    (subst (HasPassed c.drop_front.new.self c.pass_feed.new.queue (g.R.Tap.state c.args.tap.now).bytes
    (g.R.Tap.state c.pass_feed.new.tap).bytes) c.in_err-pass_feed.was c.pass_feed.ensures.passed)

pub returns-then-branch-clause-lines : goal.returns-then-branch-clause-lines
returns-then-branch-clause-lines g c unread is =
    long_feed c.drop_front.new.self c.pass_feed.new.queue unread (g.R.Tap.state c.args.tap.now).bytes
    (g.R.Tap.state c.pass_feed.new.tap).bytes
    (unread_in c.args.self.now WithinLong c.drop_front.new.self (g.R.Tap.state c.args.tap.now).bytes unread
    c.requires (sym (ap (λ r. r.bytes) c.self.view_is) ∙ sym c.drop_front.ensures) is)
    [] (subst (HasPassed c.drop_front.new.self c.pass_feed.new.queue (g.R.Tap.state c.args.tap.now).bytes
    (g.R.Tap.state c.pass_feed.new.tap).bytes) (c.in_ok-pass_feed.was ∙ ap Ok c.if-branch.true)
    c.pass_feed.ensures.passed)

pub returns-else-branch-clause-lines : goal.returns-else-branch-clause-lines
returns-else-branch-clause-lines g c unread is =
    long_end c.drop_front.new.self c.pass_feed.new.queue unread (g.R.Tap.state c.args.tap.now).bytes
    (g.R.Tap.state c.pass_feed.new.tap).bytes
    (unread_in c.args.self.now WithinLong c.drop_front.new.self (g.R.Tap.state c.args.tap.now).bytes unread
    c.requires (sym (ap (λ r. r.bytes) c.self.view_is) ∙ sym c.drop_front.ensures) is)
    [] (subst (HasPassed c.drop_front.new.self c.pass_feed.new.queue (g.R.Tap.state c.args.tap.now).bytes
    (g.R.Tap.state c.pass_feed.new.tap).bytes) (c.in_ok-pass_feed.was ∙ ap Ok c.if-branch.false)
    c.pass_feed.ensures.passed)
