use Rattle.std.proofs.Common.{ap, ◌∙◌, Err}
use Rattle.x_script.specs.Commands.{bytes_of}
use Rattle.x_script.proofs.ShowingLemmas.{tells_faulty, tells_faultless}
use Rattle.x_script.proofs.script.showing.answer_by.Goals as goal

pub returns-in-Err-Faulty-clause-told : goal.returns-in-Err-Faulty-clause-told
returns-in-Err-Faulty-clause-told g c =
    let h = c.schema.ensures in (
      h.0,
      h.1,
      h.2,
      tells_faulty c.args.pen.now c.add_line.new.pen (g.S.Sink.state c.args.sink.now)
          (g.S.Sink.state c.add_line.new.sink) c.args.session.now.known c.args.session.now.text h.1
          c.args.name.now
          (bytes_of c.args.hex.now) c.schema.result (c.in-Err-Faulty.is ∙ ap Err c.in-Err-Faulty.field-0-is)
          h.3 c.add_line.ensures,
    )

pub returns-in-Ok-clause-told : goal.returns-in-Ok-clause-told
returns-in-Ok-clause-told g c =
    tells_faultless c.args.pen.now c.answer_typed.new.pen (g.S.Sink.state c.args.sink.now)
    (g.S.Sink.state c.answer_typed.new.sink) c.args.session.now.known c.args.session.now.text
    c.args.name.now (bytes_of c.args.hex.now) c.in-Ok.schema c.schema.result c.answer_typed.result c.in-Ok.is
    c.schema.ensures c.answer_typed.ensures.told
