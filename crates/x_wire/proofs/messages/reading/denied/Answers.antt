use Rattle.std.proofs.lemmas.Result.{err_from_is_err_and}
use Rattle.x_wire.specs.HeaderForms.{reject_form}
use Rattle.x_wire.proofs.Forms.{reads_then, behind}
use Rattle.x_wire.proofs.messages.reading.denied.Goals as goal

pub returns-in_err-reason-clause-err : goal.returns-in_err-reason-clause-err
returns-in_err-reason-clause-err c =
    let p = err_from_is_err_and c.from_residual.result c.from_residual.ensures.1 in
    rw (p.1, p.2) (λ xid. c.in_err-reason.ensures.err (reject_form xid))

pub returns-in_err-stat-clause-err : goal.returns-in_err-stat-clause-err
returns-in_err-stat-clause-err c =
    let p = err_from_is_err_and c.from_residual-in_err-stat.result c.from_residual-in_err-stat.ensures.1 in
    rw (p.1, p.2) (λ xid.
    behind (c.in_ok-reason.ensures.ok (reject_form xid)) (c.in_err-stat.ensures.err xid))

pub returns-clause-ok : goal.returns-clause-ok
returns-clause-ok c = λ xid. reads_then (c.in_ok-reason.ensures.ok (reject_form xid))
    (c.in_ok-stat.ensures.ok xid)
