use Rattle.x_wire.specs.Records.{records}
use Rattle.x_wire.proofs.Dumping.{at_whole, at_piece, at_refused, over_refused}
use Rattle.x_wire.proofs.telling.dumper.Dumper.take_record.Goals as goal

pub returns-in_ok-tell_record-in-Ok-clause-told : goal.returns-in_ok-tell_record-in-Ok-clause-told
returns-in_ok-tell_record-in-Ok-clause-told g c read t h =
    at_whole c.args.schema.now read c.args.piece.now t c.args.self.now c.tell_record.new.self c.feed.new.self
    c.in-Ok.used c.in-Ok.is_whole
    c.args.pen.now c.tell_record.new.pen (g.S.Sink.state c.args.sink.now)
    (g.S.Sink.state c.tell_record.new.sink)
    h c.in-Ok.ensures.ok c.if-is_whole.true c.in_ok-tell_record-in-Ok.ensures.framer
    (c.in_ok-tell_record-in-Ok.ensures.told (records read) t h.has_told)

pub returns-else-is_whole-clause-told : goal.returns-else-is_whole-clause-told
returns-else-is_whole-clause-told g c read t h =
    at_piece c.args.schema.now read c.args.piece.now t c.args.self.now c.feed.new.self c.in-Ok.used
    c.in-Ok.is_whole
    c.args.pen.now (g.S.Sink.state c.args.sink.now) h c.in-Ok.ensures.ok c.if-is_whole.false

pub returns-in_default : goal.returns-in_default
returns-in_default g c = record {
  is_open = c.in-Err.ensures.is_open;
  used = tt;
  told = λ read t h. at_refused c.args.schema.now read c.args.piece.now t c.args.self.now c.feed.new.self
      c.in-Err.fault.code c.in-Err.fault.at
      c.args.pen.now (g.S.Sink.state c.args.sink.now) h c.in-Err.ensures.err c.in_default.not-NoMemory;
  over = over_refused c.args.self.now.framer c.feed.new.self c.args.piece.now c.in-Err.fault.code
      c.in-Err.fault.at c.in-Err.ensures.err c.in_default.not-NoMemory;
  same = tt;
}
