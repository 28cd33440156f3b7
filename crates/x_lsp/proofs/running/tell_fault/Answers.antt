use Rattle.std.proofs.Common.{sym, subst}
use Rattle.x_lsp.specs.Serving.{TellsFault}
use Rattle.x_lsp.proofs.running.tell_fault.Goals as goal

pub returns-in-Read : goal.returns-in-Read
returns-in-Read g c =
    subst (λ f. TellsFault (g.O.Outlet.is_closed c.args.out.now) f (g.E.Sink.state c.args.err.now)
    (g.E.Sink.state c.tell_of_file.new.err)) (sym c.in-Read.is) c.tell_of_file.ensures

pub returns-in-Bad : goal.returns-in-Bad
returns-in-Bad g c =
    subst (λ f. TellsFault (g.O.Outlet.is_closed c.args.out.now) f (g.E.Sink.state c.args.err.now)
    (g.E.Sink.state c.tell_of_file-in-Bad.new.err)) (sym c.in-Bad.is) c.tell_of_file-in-Bad.ensures

pub returns-in-Write : goal.returns-in-Write
returns-in-Write g c =
    subst (λ f. TellsFault (g.O.Outlet.is_closed c.args.out.now) f (g.E.Sink.state c.args.err.now)
    (g.E.Sink.state c.complain_of_output.new.err)) (sym c.in-Write.is) c.complain_of_output.ensures

pub returns-in-NoMemory : goal.returns-in-NoMemory
returns-in-NoMemory g c =
    subst (λ f. TellsFault (g.O.Outlet.is_closed c.args.out.now) f (g.E.Sink.state c.args.err.now)
    (g.E.Sink.state c.tell_of_file-in-NoMemory.new.err))
    (sym c.in-NoMemory.is) c.tell_of_file-in-NoMemory.ensures
