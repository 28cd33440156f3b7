use Rattle.std.proofs.lemmas.Result.{err_from_is_err_and}
use Rattle.x_wire.specs.Headers.{Denied, RpcMismatch, AuthError}
use Rattle.x_wire.specs.HeaderForms.{reject_form, number_form}
use Rattle.x_wire.proofs.Forms.{behind}
use Rattle.x_wire.proofs.HeaderLemmas.{by_reason, reject_other, fault_at, fault_of_form}
use Rattle.x_wire.proofs.messages.reading.reject_stat.Goals as goal

pub returns-in_err-low-clause-err : goal.returns-in_err-low-clause-err
returns-in_err-low-clause-err c =
    let p = err_from_is_err_and c.from_residual.result c.from_residual.ensures.1 in rw (p.1, p.2) (λ xid.
    let e = c.in_err-low.field-0.0 in
    fault_at (reject_form xid) c.args.reason 0 e.left c.args.bytes.now e.code c.if-reason-eq0.true
    (c.in_err-low.ensures.err (λ low high. Denied xid (RpcMismatch low high)) (λ low high. tt)))

pub returns-in_err-auth_stat-clause-err : goal.returns-in_err-auth_stat-clause-err
returns-in_err-auth_stat-clause-err c =
    let p = err_from_is_err_and c.from_residual-in_err-auth_stat.result
    c.from_residual-in_err-auth_stat.ensures.1 in rw (p.1, p.2) (λ xid.
    let e = c.in_err-auth_stat.field-0.0 in
    fault_of_form (reject_form xid c.args.reason) (number_form (by_reason xid)) e.left c.args.bytes.now e.code
    (reject_other xid c.args.reason c.if-reason-eq0.false) (c.in_err-auth_stat.ensures.err (by_reason xid)))

pub returns-in_err-end-clause-err : goal.returns-in_err-end-clause-err
returns-in_err-end-clause-err c =
    let p = err_from_is_err_and c.from_residual-in_err-end.result c.from_residual-in_err-end.ensures.1 in
    rw (p.1, p.2) (λ xid.
    let e = c.in_err-end.field-0.0 in
    fault_of_form (reject_form xid c.args.reason) (number_form (by_reason xid)) e.left c.args.bytes.now e.code
    (reject_other xid c.args.reason c.if-reason-eq0.false)
    (behind (c.in_ok-auth_stat.ensures.ok (by_reason xid))
    (c.in_err-end.ensures.err (Denied xid (AuthError c.in_ok-auth_stat.auth_stat)) tt)))
