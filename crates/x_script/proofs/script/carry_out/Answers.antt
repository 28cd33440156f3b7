use Rattle.std.proofs.Common.{Ok, false, subst}
use Rattle.x_script.specs.Giving.{GivesBy}
use Rattle.x_script.specs.LineAnswers.{IsCommandAnswer}
use Rattle.x_script.specs.Situations.{situation}
use Rattle.x_prelude.proofs.BeforeLemmas.{passed_on}
use Rattle.x_script.proofs.GivingLemmas.{asked_given, bad_given, edit_given}
use Rattle.x_script.proofs.script.carry_out.Goals as goal

pub returns-in-Edit-clause-given : goal.returns-in-Edit-clause-given
returns-in-Edit-clause-given g c = λ file.
    edit_given c.args.pen.now c.carry_out_edit.new.pen (g.S.Sink.state c.args.sink.now)
    (g.S.Sink.state c.carry_out_edit.new.sink) (situation file c.args.text.now)
    (situation file c.carry_out_edit.new.text) c.carry_out_edit.result c.args.command.now c.in-Edit.start
    c.in-Edit.end _ c.bytes.result.now c.in-Edit.is c.bytes.ensures (c.carry_out_edit.ensures.given file)

pub returns-in-Bad-clause-given : goal.returns-in-Bad-clause-given
returns-in-Bad-clause-given g c = λ file.
    bad_given c.args.pen.now c.add_line.new.pen (g.S.Sink.state c.args.sink.now)
    (g.S.Sink.state c.add_line.new.sink) (situation file c.args.text.now) c.args.command.now c.in-Bad.is
    c.add_line.ensures

pub returns-in_ok-renew-in_default-clause-given : goal.returns-in_ok-renew-in_default-clause-given
returns-in_ok-renew-in_default-clause-given g c = λ file.
    let new = situation file c.renew.new.text in
    subst (λ s. GivesBy (λ how here a. IsCommandAnswer how here c.args.command.now a) s new (Ok false)
    c.args.pen.now (g.S.Sink.state c.args.sink.now) c.add_answer.new.pen
    (g.S.Sink.state c.add_answer.new.sink))
    (c.renew.ensures.same file)
    (asked_given c.args.pen.now c.add_answer.new.pen (g.S.Sink.state c.args.sink.now)
    (g.S.Sink.state c.add_answer.new.sink) new c.renew.new.text.session.known c.args.command.now
    c.in_ok-renew-in_default.ensures.before c.add_answer.ensures)

pub returns-in_err-renew-in_default-clause-given : goal.returns-in_err-renew-in_default-clause-given
returns-in_err-renew-in_default-clause-given g c = λ file.
    let now = g.S.Sink.state c.args.sink.now in
    passed_on (λ r. GivesBy (λ how here a. IsCommandAnswer how here c.args.command.now a)
    (situation file c.args.text.now) (situation file c.renew.new.text) r c.args.pen.now now
    c.args.pen.now now)
    c.from_residual.result c.in_err-renew-in_default.field-0.0 c.from_residual.ensures.1
    (c.renew.ensures.same file)
