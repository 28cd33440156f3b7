use Rattle.std.proofs.Common.{IfOk, sym, subst}
use Rattle.x_wire.specs.Messages.{body_of_kind, body_of_reply, header_of_kind, header_of_reply}
use Rattle.x_wire.specs.Tellers.{TellsHeader, TellsReply}
use Rattle.x_wire.specs.declared.messages.parts.MessageKind.{MessageKind}
use Rattle.x_wire.specs.LastCalls.{last_call}
use Rattle.x_wire.proofs.TellerLemmas.{tells_reply}
use Rattle.x_wire.proofs.telling.teller.Teller.tell_message.Goals as goal

pub returns-in-Call-clause-told : goal.returns-in-Call-clause-told
returns-in-Call-clause-told g c =
    subst (λ (k : MessageKind).
    IfOk c.tell_call.result
    (λ refused. TellsHeader c.args.schema.now c.args.self.now.calls.count (last_call c.args.self.now.calls)
    (header_of_kind c.args.message.now.xid k) (body_of_kind k) refused (last_call c.tell_call.new.self.calls)
    c.args.pen.now (g.S.Sink.state c.args.sink.now) c.tell_call.new.pen
    (g.S.Sink.state c.tell_call.new.sink))) (sym c.in-Call.is) c.tell_call.ensures.told

pub returns-in-Reply-clause-told : goal.returns-in-Reply-clause-told
returns-in-Reply-clause-told g c =
    let xid = c.args.message.now.xid in
    let start = g.S.Sink.state c.args.sink.now in
    let end = g.S.Sink.state c.tell_reply.new.sink in
    subst (λ (k : MessageKind).
    IfOk c.tell_reply.result
    (λ refused. TellsHeader c.args.schema.now c.args.self.now.calls.count (last_call c.args.self.now.calls)
    (header_of_kind xid k) (body_of_kind k) refused (last_call c.args.self.now.calls) c.args.pen.now start
    c.tell_reply.new.pen end)) (sym c.in-Reply.is)
    (tells_reply c.args.schema.now c.args.self.now.calls.count xid (last_call c.args.self.now.calls)
    c.get-heard.result c.in-Reply.reply c.tell_reply.result
    c.args.pen.now c.tell_reply.new.pen start end c.get-heard.ensures
    (subst (λ n. IfOk c.tell_reply.result
    (λ refused. TellsReply c.args.schema.now n xid c.get-heard.result (header_of_reply xid c.in-Reply.reply)
    (body_of_reply c.in-Reply.reply) refused c.args.pen.now start c.tell_reply.new.pen end)) c.count.ensures
    c.tell_reply.ensures.told))
