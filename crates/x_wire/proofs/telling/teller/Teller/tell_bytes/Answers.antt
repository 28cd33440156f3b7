use Rattle.std.proofs.Common.{◌++◌, subst}
use Rattle.x_wire.specs.Messages.{body_of, header_of}
use Rattle.x_streams.specs.Writing.{Adds}
use Rattle.x_wire.specs.MessageTexts.{bad_header_line, raw_line}
use Rattle.x_wire.specs.LastCalls.{last_call}
use Rattle.x_wire.proofs.TellerLemmas.{tells_read, tells_refused}
use Rattle.x_wire.proofs.telling.teller.Teller.tell_bytes.Goals as goal

pub returns-in-Ok-clause-told : goal.returns-in-Ok-clause-told
returns-in-Ok-clause-told g c =
    let message = c.in-Ok.message in
    tells_read c.args.schema.now c.args.self.now.calls.count (last_call c.args.self.now.calls)
    (last_call c.tell_message.new.self.calls) c.args.bytes.now (body_of message) (header_of message)
    c.tell_message.result c.args.pen.now c.tell_message.new.pen (g.S.Sink.state c.args.sink.now)
    (g.S.Sink.state c.tell_message.new.sink)
    c.in-Ok.ensures.ok c.tell_message.ensures.told

pub returns-in-Err-clause-told : goal.returns-in-Err-clause-told
returns-in-Err-clause-told g c =
    let fault = c.in-Err.fault in
    tells_refused c.args.schema.now c.args.self.now.calls.count (last_call c.args.self.now.calls)
    c.args.bytes.now fault.at fault.code c.args.pen.now c.add_bad_header.new.pen
    (g.S.Sink.state c.args.sink.now) (g.S.Sink.state c.add_bad_header.new.sink) c.in-Err.ensures.err
    (subst (λ n. Adds c.args.pen.now (g.S.Sink.state c.args.sink.now) c.add_bad_header.new.pen
    (g.S.Sink.state c.add_bad_header.new.sink)
    (bad_header_line n fault.at fault.code ++ raw_line c.args.bytes.now)) c.count.ensures
    c.add_bad_header.ensures)
