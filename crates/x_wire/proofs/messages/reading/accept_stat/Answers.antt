use Rattle.std.proofs.lemmas.Result.{err_from_is_err_and}
use Rattle.x_wire.specs.Headers.{Accepted, ProgMismatch}
use Rattle.x_wire.specs.HeaderForms.{accept_form}
use Rattle.x_wire.proofs.HeaderLemmas.{accept_ends, fault_at}
use Rattle.x_wire.proofs.messages.reading.accept_stat.Goals as goal

pub returns-in_err-low-clause-err : goal.returns-in_err-low-clause-err
returns-in_err-low-clause-err c =
    let p = err_from_is_err_and c.from_residual.result c.from_residual.ensures.1 in rw (p.1, p.2) (λ xid verf.
    let e = c.in_err-low.field-0.0 in
    fault_at (accept_form xid verf) c.args.number 2 e.left c.args.bytes.now e.code c.if-number-eq2.true
    (c.in_err-low.ensures.err (λ low high. Accepted xid verf (ProgMismatch low high)) (λ low high. tt)))

pub returns-in_err-end-clause-err : goal.returns-in_err-end-clause-err
returns-in_err-end-clause-err c =
    let p = err_from_is_err_and c.from_residual-in_err-end.result c.from_residual-in_err-end.ensures.1 in
    rw (p.1, p.2) (λ xid verf.
    let e = c.in_err-end.field-0.0 in
    accept_ends xid verf c.args.number e.left c.args.bytes.now e.code c.if-number-eq0.false
    c.if-number-eq2.false c.in_err-end.ensures.err)
