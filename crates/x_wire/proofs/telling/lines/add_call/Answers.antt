use Rattle.std.proofs.Common.{codes}
use Rattle.x_text.proofs.Adding.{three}
use Rattle.x_wire.specs.Messages.{auth_of}
use Rattle.x_wire.specs.MessageTexts.{auth_line, call_line}
use Rattle.x_wire.proofs.telling.lines.add_call.Goals as goal

pub returns : goal.returns
returns g c =
    let heading = c.args.heading.now in
    let call = c.args.call.now in
    three c.args.pen.now c.add_call_line.new.pen c.add_auth.new.pen c.add_auth-2.new.pen
    (g.S.Sink.state c.args.sink.now) (g.S.Sink.state c.add_call_line.new.sink)
    (g.S.Sink.state c.add_auth.new.sink) (g.S.Sink.state c.add_auth-2.new.sink)
    (call_line heading.id.number heading.id.xid call.rpcvers call.prog call.vers call.proc heading.name.now)
    (auth_line (codes "cred") (auth_of call.cred)) (auth_line (codes "verf") (auth_of call.verf))
    c.add_call_line.ensures c.add_auth.ensures c.add_auth-2.ensures
