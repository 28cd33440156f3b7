use Rattle.std.proofs.lemmas.Result.{err_from_is_err_and}
use Rattle.x_wire.specs.HeaderForms.{kind_form, reply_form, state_form, Whole}
use Rattle.x_wire.specs.Messages.{header_of_reply, body_of_reply}
use Rattle.x_wire.proofs.Forms.{reads_then, behind}
use Rattle.x_wire.proofs.HeaderLemmas.{kind_other, fault_at, fault_of_form, reads_of_form}
use Rattle.x_wire.proofs.messages.reading.kind.Goals as goal

pub returns-in_err-call-clause-err : goal.returns-in_err-call-clause-err
returns-in_err-call-clause-err c =
    let p = err_from_is_err_and c.from_residual.result c.from_residual.ensures.1 in rw (p.1, p.2) (λ xid.
    let e = c.in_err-call.field-0.0 in
    fault_at (kind_form xid) c.args.number 0 e.left c.args.bytes.now e.code c.if-number-eq0.true
    (c.in_err-call.ensures.err xid))

pub returns-in_err-number-clause-err : goal.returns-in_err-number-clause-err
returns-in_err-number-clause-err c =
    let p = err_from_is_err_and c.from_residual-in_err-number.result
    c.from_residual-in_err-number.ensures.1 in rw (p.1, p.2) (λ xid.
    let e = c.in_err-number.field-0.0 in
    fault_of_form (kind_form xid c.args.number) (state_form 1 (reply_form xid)) e.left c.args.bytes.now e.code
    (kind_other xid c.args.number c.if-number-eq0.false) (c.in_err-number.ensures.err (reply_form xid)))

pub returns-in_err-reply-clause-err : goal.returns-in_err-reply-clause-err
returns-in_err-reply-clause-err c =
    let p = err_from_is_err_and c.from_residual-in_err-reply.result c.from_residual-in_err-reply.ensures.1 in
    rw (p.1, p.2) (λ xid.
    let e = c.in_err-reply.field-0.0 in
    fault_of_form (kind_form xid c.args.number) (state_form 1 (reply_form xid)) e.left c.args.bytes.now e.code
    (kind_other xid c.args.number c.if-number-eq0.false)
    (behind (c.in_ok-number.ensures.ok (reply_form xid)) (c.in_err-reply.ensures.err xid)))

pub returns-clause-ok : goal.returns-clause-ok
returns-clause-ok c = λ xid.
    reads_of_form (kind_form xid c.args.number) (state_form 1 (reply_form xid))
    (Whole (header_of_reply xid c.in_ok-reply.field-0)) c.args.bytes.now (body_of_reply c.in_ok-reply.field-0)
    (kind_other xid c.args.number c.if-number-eq0.false)
    (reads_then (c.in_ok-number.ensures.ok (reply_form xid)) (c.in_ok-reply.ensures.ok xid))
