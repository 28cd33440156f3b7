use Rattle.std.proofs.Common.{◌-◌, length, refl}
use Rattle.x_wire.specs.Messages.{header_of, body_of}
use Rattle.x_wire.proofs.HeaderLemmas.{message_is, bare_body, fault_is}
use Rattle.x_wire.proofs.messages.reading.message.Goals as goal

pub returns-in-Ok-clause-ok : goal.returns-in-Ok-clause-ok
returns-in-Ok-clause-ok c =
    message_is c.args.bytes.now (header_of c.in-Ok.message) (body_of c.in-Ok.message) c.in-Ok.ensures.ok
    (bare_body c.in-Ok.message.xid c.in-Ok.message.kind)

pub returns-in-Err-clause-err : goal.returns-in-Err-clause-err
returns-in-Err-clause-err c =
    fault_is c.args.bytes.now c.in-Err.refusal.left (length c.args.bytes.now - c.in-Err.refusal.left)
    c.in-Err.refusal.code c.in-Err.ensures.err refl
