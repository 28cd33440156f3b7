use Rattle.std.proofs.Common.{ap, sym}
use Rattle.x_streams.specs.Engines.{is_refused}
use Rattle.x_script.specs.Situations.{situation}
use Rattle.rpcx.specs.Editing.{status_of}
use Rattle.x_args.specs.declared.status.Status.TheVariants.{Done, Faulty}
use Rattle.rpcx.proofs.Editing.{answers_all, ends_by}
use Rattle.rpcx.proofs.rpcedit.answer_input.Goals as goal

pub returns-in-Ok-Clean-clause-answers : goal.returns-in-Ok-Clean-clause-answers
returns-in-Ok-Clean-clause-answers g c =
    let file = c.args.file.now in
    answers_all (g.I.Tap.state c.args.input.now).bytes (g.I.Tap.state c.run_script.new.tap).bytes
    (situation file c.args.text.now) (situation file c.run_script.new.text) (g.O.Sink.state c.args.out.now)
    (g.O.Sink.state c.run_script.new.sink) c.in-Ok-Clean.field-0 Done
    (ap (λ o. status_of (is_refused o)) (sym c.in-Ok-Clean.field-0-is)) c.in-Ok-Clean.ensures.runs

pub returns-in-Ok-Refused-clause-answers : goal.returns-in-Ok-Refused-clause-answers
returns-in-Ok-Refused-clause-answers g c =
    let file = c.args.file.now in
    answers_all (g.I.Tap.state c.args.input.now).bytes (g.I.Tap.state c.run_script.new.tap).bytes
    (situation file c.args.text.now) (situation file c.run_script.new.text) (g.O.Sink.state c.args.out.now)
    (g.O.Sink.state c.run_script.new.sink) c.in-Ok-Refused.field-0 Faulty
    (ap (λ o. status_of (is_refused o)) (sym c.in-Ok-Refused.field-0-is)) c.in-Ok-Refused.ensures.runs

pub returns-in-Err-clause-stopped : goal.returns-in-Err-clause-stopped
returns-in-Err-clause-stopped g c e = (
  c.in-Err.fault,
  ends_by (g.I.Tap.state c.args.input.now) (g.I.Tap.state c.run_script.new.tap)
      (g.O.Sink.state c.args.out.now) (g.O.Sink.state c.run_script.new.sink)
      (situation c.args.file.now c.args.text.now) (situation c.args.file.now c.run_script.new.text)
      c.in-Err.fault c.in-Err.ensures.cause c.in-Err.ensures.runs,
  c.tell_stop.ensures,
)
