use Rattle.std.proofs.Common.{sym, subst}
use Rattle.x_opening.specs.Opened.{TellsStop}
use Rattle.x_opening.proofs.complaint.tell_stop.Goals as goal

pub returns-in-Read : goal.returns-in-Read
returns-in-Read g c =
    subst (λ f. TellsStop (g.O.Outlet.is_closed c.args.out.now) c.args.program.now c.args.file.now f
    (g.E.Sink.state c.args.err.now) (g.E.Sink.state c.tell_of_file.new.err)) (sym c.in-Read.is)
    c.tell_of_file.ensures

pub returns-in-Write : goal.returns-in-Write
returns-in-Write g c =
    subst (λ f. TellsStop (g.O.Outlet.is_closed c.args.out.now) c.args.program.now c.args.file.now f
    (g.E.Sink.state c.args.err.now) (g.E.Sink.state c.complain_of_output.new.err)) (sym c.in-Write.is)
    c.complain_of_output.ensures

pub returns-in-NoMemory : goal.returns-in-NoMemory
returns-in-NoMemory g c =
    subst (λ f. TellsStop (g.O.Outlet.is_closed c.args.out.now) c.args.program.now c.args.file.now f
    (g.E.Sink.state c.args.err.now) (g.E.Sink.state c.tell_of_file-in-NoMemory.new.err))
    (sym c.in-NoMemory.is) c.tell_of_file-in-NoMemory.ensures
