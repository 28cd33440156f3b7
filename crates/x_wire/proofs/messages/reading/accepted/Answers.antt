use Rattle.std.proofs.Common.{ℕ}
use Rattle.std.proofs.lemmas.Result.{err_from_is_err_and}
use Rattle.x_wire.specs.Headers.{Auth}
use Rattle.x_wire.specs.HeaderForms.{HeaderForm, accept_form, state_form}
use Rattle.x_wire.specs.Messages.{auth_of}
use Rattle.x_wire.proofs.Forms.{reads_then, behind}
use Rattle.x_wire.proofs.messages.reading.accepted.Goals as goal

-- what stands behind the authentication field
abbrev by_verf : ℕ → Auth → HeaderForm
by_verf xid verf = state_form 5 (λ n. accept_form xid verf n)

pub returns-in_err-verf-clause-err : goal.returns-in_err-verf-clause-err
returns-in_err-verf-clause-err c =
    let p = err_from_is_err_and c.from_residual.result c.from_residual.ensures.1 in
    rw (p.1, p.2) (λ xid. c.in_err-verf.ensures.err (by_verf xid))

pub returns-in_err-number-clause-err : goal.returns-in_err-number-clause-err
returns-in_err-number-clause-err c =
    let p = err_from_is_err_and c.from_residual-in_err-number.result
    c.from_residual-in_err-number.ensures.1 in rw (p.1, p.2) (λ xid.
    behind (c.in_ok-verf.ensures.ok (by_verf xid))
    (c.in_err-number.ensures.err (accept_form xid (auth_of c.in_ok-verf.verf))))

pub returns-in_err-stat-clause-err : goal.returns-in_err-stat-clause-err
returns-in_err-stat-clause-err c =
    let p = err_from_is_err_and c.from_residual-in_err-stat.result c.from_residual-in_err-stat.ensures.1 in
    rw (p.1, p.2) (λ xid.
    behind (reads_then (c.in_ok-verf.ensures.ok (by_verf xid))
    (c.in_ok-number.ensures.ok (accept_form xid (auth_of c.in_ok-verf.verf))))
    (c.in_err-stat.ensures.err xid (auth_of c.in_ok-verf.verf)))

pub returns-clause-ok : goal.returns-clause-ok
returns-clause-ok c = λ xid.
    reads_then (reads_then (c.in_ok-verf.ensures.ok (by_verf xid))
    (c.in_ok-number.ensures.ok (accept_form xid (auth_of c.in_ok-verf.verf))))
    (c.in_ok-stat.ensures.ok xid (auth_of c.in_ok-verf.verf))
