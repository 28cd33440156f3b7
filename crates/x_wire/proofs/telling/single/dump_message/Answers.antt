use Rattle.std.proofs.Common.{◌∙◌}
use Rattle.x_wire.specs.LastCalls.{last_call}
use Rattle.x_wire.proofs.Dumping.{told_alone}
use Rattle.x_wire.proofs.telling.single.dump_message.Goals as goal

pub returns-in-Ok-finish-clause-dumps : goal.returns-in-Ok-finish-clause-dumps
returns-in-Ok-finish-clause-dumps g c =
    let start = g.S.Sink.state c.args.sink.now in
    let alone = told_alone c.args.schema.now c.args.bytes.now c.new-teller.result
    (last_call c.tell.new.self.calls) c.in-Ok.refused start c.new-pen.result c.tell.new.pen
    (g.S.Sink.state c.tell.new.sink) (c.new-teller.ensures.knows c.args.schema.now) c.new-teller.ensures.count
    c.new-pen.ensures c.in-Ok.ensures.told in (
      alone.text,
      alone.are,
      c.in-Ok-finish.ensures.written start alone.text.text alone.writes,
      c.of.ensures ∙ alone.refused_is,
    )

pub returns-clause-dumps : goal.returns-clause-dumps
returns-clause-dumps g c =
    let start = g.S.Sink.state c.args.sink.now in
    let alone = told_alone c.args.schema.now c.args.bytes.now c.new-teller.result
    (last_call c.tell.new.self.calls) c.in-Ok.refused start c.new-pen.result c.tell.new.pen
    (g.S.Sink.state c.tell.new.sink) (c.new-teller.ensures.knows c.args.schema.now) c.new-teller.ensures.count
    c.new-pen.ensures c.in-Ok.ensures.told in
    (alone.text, alone.are, c.in-Err.ensures.written start alone.text.text alone.writes)
