use Rattle.std.proofs.Common.{codes, ◌++◌, subst}
use Rattle.x_streams.specs.Writing.{Adds}
use Rattle.x_wire.specs.Bodies.{IsReadAs}
use Rattle.x_wire.specs.Messages.{auth_of}
use Rattle.x_wire.specs.MessageTexts.{auth_line, call_line}
use Rattle.x_wire.specs.LastCalls.{last_call}
use Rattle.x_wire.proofs.TellerLemmas.{tells_call}
use Rattle.x_wire.proofs.telling.teller.Teller.tell_call.Goals as goal

pub returns-clause-told : goal.returns-clause-told
returns-clause-told g c =
    let call = c.args.call.now in
    let number = c.args.self.now.calls.count in
    let name = c.name_of.result.now in
    let read = c.in_ok-arguments.arguments in
    let start = g.S.Sink.state c.args.sink.now in
    let mid = g.S.Sink.state c.add_call.new.sink in
    tells_call c.args.schema.now number c.args.xid call.rpcvers call.prog call.vers call.proc
    (auth_of call.cred) (auth_of call.verf) call.body.now
    c.numbers_called.result c.find-index.result c.procedure_by-procedure.result read name
    (last_call c.args.self.now.calls) (last_call c.put.new.self) c.add_lines.result
    c.args.pen.now c.add_call.new.pen c.add_lines.new.pen start mid (g.S.Sink.state c.add_lines.new.sink)
    c.numbers_called.ensures c.find-index.ensures c.procedure_by-procedure.ensures
    (subst (λ t. IsReadAs c.args.schema.now t call.body.now read) c.arg_of.ensures c.in_ok-arguments.ensures)
    c.in_ok-put.ensures.last c.name_of.ensures
    (subst (λ n. Adds c.args.pen.now start c.add_call.new.pen mid
    (call_line n c.args.xid call.rpcvers call.prog call.vers call.proc name
    ++ auth_line (codes "cred") (auth_of call.cred) ++ auth_line (codes "verf") (auth_of call.verf)))
    c.count-number.ensures c.add_call.ensures)
    c.add_lines.ensures.added c.add_lines.ensures.refused
