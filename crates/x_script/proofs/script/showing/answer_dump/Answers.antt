use Rattle.std.proofs.Common.{subst}
use Rattle.x_prelude.proofs.BeforeLemmas.{passed_on}
use Rattle.x_script.specs.Commands.{bytes_of}
use Rattle.x_script.specs.Giving.{GivesBy}
use Rattle.x_script.specs.LineAnswers.{IsDumped}
use Rattle.x_script.specs.Situations.{situation}
use Rattle.x_script.proofs.GivingLemmas.{hidden_given, read_given}
use Rattle.x_script.proofs.script.showing.answer_dump.Goals as goal

pub returns-then-not-file-clause-given : goal.returns-then-not-file-clause-given
returns-then-not-file-clause-given g c =
    let file = c.args.file.now in
    hidden_given c.args.pen.now c.add_line.new.pen (g.S.Sink.state c.args.sink.now)
    (g.S.Sink.state c.add_line.new.sink) (situation file c.args.text.now) c.args.name.now
    (bytes_of c.args.hex.now) c.if-not-file.true c.add_line.ensures

pub returns-in_err-renew-clause-given : goal.returns-in_err-renew-clause-given
returns-in_err-renew-clause-given g c =
    let file = c.args.file.now in
    let now = g.S.Sink.state c.args.sink.now in
    passed_on (λ r. GivesBy (λ how here a. IsDumped how here c.args.name.now (bytes_of c.args.hex.now) a)
    (situation file c.args.text.now) (situation file c.renew.new.text) r c.args.pen.now now
    c.args.pen.now now)
    c.from_residual.result c.in_err-renew.field-0.0 c.from_residual.ensures.1
    (c.renew.ensures.same file)

pub returns-clause-given : goal.returns-clause-given
returns-clause-given g c =
    let file = c.args.file.now in
    let text = c.renew.new.text in
    let new = situation file text in
    let name = c.args.name.now in
    let message = bytes_of c.args.hex.now in
    let q = c.answer_over.new.pen in
    let now = g.S.Sink.state c.args.sink.now in
    let end = g.S.Sink.state c.answer_over.new.sink in
    subst (λ s. GivesBy (λ how here a. IsDumped how here name message a) s new c.answer_over.result
    c.args.pen.now now q end) (c.renew.ensures.same file)
    (read_given c.args.pen.now q now end new text.session.known c.answer_over.result name message
    c.if-not-file.false c.in_ok-renew.ensures.before (c.answer_over.ensures.told file))
