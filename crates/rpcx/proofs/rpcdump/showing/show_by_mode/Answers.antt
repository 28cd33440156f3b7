use Rattle.std.proofs.Common.{sym, subst}
use Rattle.rpcx.specs.Course.{course}
use Rattle.rpcx.specs.Dumping.{type_asked, Goes}
use Rattle.rpcx.proofs.rpcdump.showing.show_by_mode.Goals as goal

pub returns-in-Stream : goal.returns-in-Stream
returns-in-Stream g c =
    subst (λ mode. Goes mode (type_asked c.args.args.now) c.args.schema.now
    (course (g.I.Tap.state c.args.input.now) (g.I.Tap.state c.show_stream.new.input)
    (g.O.Sink.state c.args.out.now) (g.O.Sink.state c.show_stream.new.out)) c.show_stream.result)
    (sym c.in-Stream.is) (c.show_stream.ensures (type_asked c.args.args.now))

pub returns-in-Message : goal.returns-in-Message
returns-in-Message g c =
    subst (λ mode. Goes mode (type_asked c.args.args.now) c.args.schema.now
    (course (g.I.Tap.state c.args.input.now) (g.I.Tap.state c.show_message.new.input)
    (g.O.Sink.state c.args.out.now) (g.O.Sink.state c.show_message.new.out)) c.show_message.result)
    (sym c.in-Message.is) (c.show_message.ensures (type_asked c.args.args.now))
