use Rattle.std.proofs.Common.{ℕ}
use Rattle.std.proofs.lemmas.Result.{err_from_is_err_and}
use Rattle.x_wire.specs.HeaderForms.{HeaderForm, kind_form, state_form}
use Rattle.x_wire.proofs.Forms.{reads_then, behind}
use Rattle.x_wire.proofs.messages.reading.whole_message.Goals as goal

-- what stands behind the xid
abbrev by_xid : ℕ → HeaderForm
by_xid xid = state_form 1 (λ n. kind_form xid n)

pub returns-in_err-xid-clause-err : goal.returns-in_err-xid-clause-err
returns-in_err-xid-clause-err c =
    let p = err_from_is_err_and c.from_residual.result c.from_residual.ensures.1 in
    rw (p.1, p.2) (c.in_err-xid.ensures.err by_xid)

pub returns-in_err-number-clause-err : goal.returns-in_err-number-clause-err
returns-in_err-number-clause-err c =
    let p = err_from_is_err_and c.from_residual-in_err-number.result
    c.from_residual-in_err-number.ensures.1 in rw (p.1, p.2)
    (behind (c.in_ok-xid.ensures.ok by_xid) (c.in_err-number.ensures.err (kind_form c.in_ok-xid.xid)))

pub returns-in_err-kind-clause-err : goal.returns-in_err-kind-clause-err
returns-in_err-kind-clause-err c =
    let p = err_from_is_err_and c.from_residual-in_err-kind.result c.from_residual-in_err-kind.ensures.1 in
    rw (p.1, p.2)
    (behind (reads_then (c.in_ok-xid.ensures.ok by_xid)
    (c.in_ok-number.ensures.ok (kind_form c.in_ok-xid.xid))) (c.in_err-kind.ensures.err c.in_ok-xid.xid))

pub returns-clause-ok : goal.returns-clause-ok
returns-clause-ok c =
    reads_then (reads_then (c.in_ok-xid.ensures.ok by_xid)
    (c.in_ok-number.ensures.ok (kind_form c.in_ok-xid.xid))) (c.in_ok-kind.ensures.ok c.in_ok-xid.xid)
