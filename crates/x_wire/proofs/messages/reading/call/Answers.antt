use Rattle.std.proofs.lemmas.Result.{err_from_is_err_and}
use Rattle.x_wire.specs.Headers.{Call}
use Rattle.x_wire.specs.HeaderForms.{Whole}
use Rattle.x_wire.specs.Messages.{auth_of}
use Rattle.x_wire.proofs.Forms.{reads_then, behind}
use Rattle.x_wire.proofs.HeaderLemmas.{by_rpcvers, by_prog, by_vers, by_proc, by_cred}
use Rattle.x_wire.proofs.messages.reading.call.Goals as goal

pub returns-in_err-rpcvers-clause-err : goal.returns-in_err-rpcvers-clause-err
returns-in_err-rpcvers-clause-err c =
    let p = err_from_is_err_and c.from_residual.result c.from_residual.ensures.1 in
    rw (p.1, p.2) (λ xid. c.in_err-rpcvers.ensures.err (by_rpcvers xid))

pub returns-in_err-prog-clause-err : goal.returns-in_err-prog-clause-err
returns-in_err-prog-clause-err c =
    let p = err_from_is_err_and c.from_residual-in_err-prog.result c.from_residual-in_err-prog.ensures.1 in
    rw (p.1, p.2) (λ xid.
    behind (c.in_ok-rpcvers.ensures.ok (by_rpcvers xid))
    (c.in_err-prog.ensures.err (by_prog xid c.in_ok-rpcvers.rpcvers)))

pub returns-in_err-vers-clause-err : goal.returns-in_err-vers-clause-err
returns-in_err-vers-clause-err c =
    let p = err_from_is_err_and c.from_residual-in_err-vers.result c.from_residual-in_err-vers.ensures.1 in
    rw (p.1, p.2) (λ xid.
    behind (reads_then (c.in_ok-rpcvers.ensures.ok (by_rpcvers xid))
    (c.in_ok-prog.ensures.ok (by_prog xid c.in_ok-rpcvers.rpcvers)))
    (c.in_err-vers.ensures.err (by_vers xid c.in_ok-rpcvers.rpcvers c.in_ok-prog.prog)))

pub returns-in_err-proc-clause-err : goal.returns-in_err-proc-clause-err
returns-in_err-proc-clause-err c =
    let p = err_from_is_err_and c.from_residual-in_err-proc.result c.from_residual-in_err-proc.ensures.1 in
    rw (p.1, p.2) (λ xid.
    behind (c.in_ok-rpcvers.ensures.ok (by_rpcvers xid))
    (behind (c.in_ok-prog.ensures.ok (by_prog xid c.in_ok-rpcvers.rpcvers))
    (behind (c.in_ok-vers.ensures.ok (by_vers xid c.in_ok-rpcvers.rpcvers c.in_ok-prog.prog))
    (c.in_err-proc.ensures.err (by_proc xid c.in_ok-rpcvers.rpcvers c.in_ok-prog.prog c.in_ok-vers.vers)))))

pub returns-in_err-cred-clause-err : goal.returns-in_err-cred-clause-err
returns-in_err-cred-clause-err c =
    let p = err_from_is_err_and c.from_residual-in_err-cred.result c.from_residual-in_err-cred.ensures.1 in
    rw (p.1, p.2) (λ xid.
    behind (c.in_ok-rpcvers.ensures.ok (by_rpcvers xid))
    (behind (c.in_ok-prog.ensures.ok (by_prog xid c.in_ok-rpcvers.rpcvers))
    (behind (c.in_ok-vers.ensures.ok (by_vers xid c.in_ok-rpcvers.rpcvers c.in_ok-prog.prog))
    (behind (c.in_ok-proc.ensures.ok
    (by_proc xid c.in_ok-rpcvers.rpcvers c.in_ok-prog.prog c.in_ok-vers.vers))
    (c.in_err-cred.ensures.err
    (by_cred xid c.in_ok-rpcvers.rpcvers c.in_ok-prog.prog c.in_ok-vers.vers c.in_ok-proc.proc))))))

pub returns-in_err-verf-clause-err : goal.returns-in_err-verf-clause-err
returns-in_err-verf-clause-err c =
    let p = err_from_is_err_and c.from_residual-in_err-verf.result c.from_residual-in_err-verf.ensures.1 in
    rw (p.1, p.2) (λ xid.
    behind (c.in_ok-rpcvers.ensures.ok (by_rpcvers xid))
    (behind (c.in_ok-prog.ensures.ok (by_prog xid c.in_ok-rpcvers.rpcvers))
    (behind (c.in_ok-vers.ensures.ok (by_vers xid c.in_ok-rpcvers.rpcvers c.in_ok-prog.prog))
    (behind (c.in_ok-proc.ensures.ok
    (by_proc xid c.in_ok-rpcvers.rpcvers c.in_ok-prog.prog c.in_ok-vers.vers))
    (behind (c.in_ok-cred.ensures.ok
    (by_cred xid c.in_ok-rpcvers.rpcvers c.in_ok-prog.prog c.in_ok-vers.vers c.in_ok-proc.proc))
    (c.in_err-verf.ensures.err
    (λ verf. Whole (Call xid c.in_ok-rpcvers.rpcvers c.in_ok-prog.prog c.in_ok-vers.vers c.in_ok-proc.proc
    (auth_of c.in_ok-cred.cred) verf))))))))

pub returns-clause-ok : goal.returns-clause-ok
returns-clause-ok c = λ xid.
    reads_then (c.in_ok-rpcvers.ensures.ok (by_rpcvers xid))
    (reads_then (c.in_ok-prog.ensures.ok (by_prog xid c.in_ok-rpcvers.rpcvers))
    (reads_then (c.in_ok-vers.ensures.ok (by_vers xid c.in_ok-rpcvers.rpcvers c.in_ok-prog.prog))
    (reads_then (c.in_ok-proc.ensures.ok
    (by_proc xid c.in_ok-rpcvers.rpcvers c.in_ok-prog.prog c.in_ok-vers.vers))
    (reads_then (c.in_ok-cred.ensures.ok
    (by_cred xid c.in_ok-rpcvers.rpcvers c.in_ok-prog.prog c.in_ok-vers.vers c.in_ok-proc.proc))
    (c.in_ok-verf.ensures.ok
    (λ verf. Whole (Call xid c.in_ok-rpcvers.rpcvers c.in_ok-prog.prog c.in_ok-vers.vers c.in_ok-proc.proc
    (auth_of c.in_ok-cred.cred) verf)))))))
