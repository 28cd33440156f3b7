use Rattle.std.proofs.Common.{refl, subst}
use Rattle.rpcx.specs.Dumping.{halted, type_asked, TellsHalt}
use Rattle.rpcx.proofs.Dumping.{not_dumped}
use Rattle.rpcx.proofs.rpcdump.dump_run.Goals as goal

pub returns-in-Err-shown-clause-dumped : goal.returns-in-Err-shown-clause-dumped
returns-in-Err-shown-clause-dumped g c =
    let args = c.args.args.now in
    halted c.in-Ok.schema c.in-Ok.ensures.opens c.in-Err-shown.halt c.in-Err-shown.ensures
    (subst (λ e. TellsHalt (g.O.Outlet.is_closed c.show-shown.new.out) (type_asked args) args.file.now
    c.in-Err-shown.halt (g.E.Sink.state e) (g.E.Sink.state c.tell_halt.new.err)) c.in-Ok.ensures.quiet
    c.tell_halt.ensures)

pub returns-in-Err-clause-dumped : goal.returns-in-Err-clause-dumped
returns-in-Err-clause-dumped g c =
    not_dumped c.args.how.now c.args.args.now c.args.mode _ _ _ _ _ c.in-Err.status c.in-Err.ensures.opens
    (record { unread = refl; unwritten = refl })
