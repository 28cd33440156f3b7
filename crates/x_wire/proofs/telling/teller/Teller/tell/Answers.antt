use Rattle.std.proofs.Common.{ℕ, List, nat_eq, IfOk, subst}
use Rattle.std.specs.Map.{lookup}
use Rattle.x_wire.specs.LastCalls.{last_call}
use Rattle.x_wire.specs.Tellers.{TellsMessage}
use Rattle.x_wire.specs.declared.telling.calls.LastCall.{LastCall}
use Rattle.x_wire.proofs.telling.teller.Teller.tell.Goals as goal

pub returns-clause-told : goal.returns-clause-told
returns-clause-told g c =
    let start = g.S.Sink.state c.args.sink.now in
    let end = g.S.Sink.state c.tell_bytes.new.sink in
    subst (λ n. IfOk c.tell_bytes.result
    (λ refused. TellsMessage c.args.schema.now n (last_call c.args.self.now.calls) c.args.bytes.now refused
    (last_call c.tell_bytes.new.self.calls) c.args.pen.now start c.tell_bytes.new.pen end))
    c.in_ok-count_message.ensures.counted
    (subst (λ (calls : List (ℕ × LastCall)).
    IfOk c.tell_bytes.result (λ refused. TellsMessage c.args.schema.now c.count_message.new.self.count
    (λ xid. lookup (nat_eq xid) calls) c.args.bytes.now refused (last_call c.tell_bytes.new.self.calls)
    c.args.pen.now start c.tell_bytes.new.pen end))
    c.count_message.ensures.same c.tell_bytes.ensures.told)
