use Rattle.std.proofs.Common.{sym, subst, codes, ◌++◌}
use Rattle.rpcx.specs.Dumping.{type_asked, TellsHalt}
use Rattle.x_args.specs.Telling.{IsTold}
use Rattle.x_opening.proofs.Passing.{now_or}
use Rattle.rpcx.proofs.rpcdump.halt.tell_halt.Goals as goal

pub returns-in-NoType : goal.returns-in-NoType
returns-in-NoType g c =
    let start = g.E.Sink.state c.args.err.now in
    let now = g.E.Sink.state c.tell_no_type.new.err in
    subst (λ f. TellsHalt (g.O.Outlet.is_closed c.args.out.now) (type_asked c.args.args.now)
    c.args.args.now.file.now f start now) (sym c.in-NoType.is)
    (subst (λ name. IsTold start now (codes "rpcdump: no type " ++ name ++ codes "\n"))
    (now_or c.args.args.now.type_name _ c.unwrap_or.result c.unwrap_or.ensures) c.tell_no_type.ensures)

pub returns-in-Unread : goal.returns-in-Unread
returns-in-Unread g c =
    subst (λ f. TellsHalt (g.O.Outlet.is_closed c.args.out.now) (type_asked c.args.args.now)
    c.args.args.now.file.now f (g.E.Sink.state c.args.err.now) (g.E.Sink.state c.tell_of_file.new.err))
    (sym c.in-Unread.is) c.tell_of_file.ensures

pub returns-in-TooLarge : goal.returns-in-TooLarge
returns-in-TooLarge g c =
    subst (λ f. TellsHalt (g.O.Outlet.is_closed c.args.out.now) (type_asked c.args.args.now)
    c.args.args.now.file.now f (g.E.Sink.state c.args.err.now)
    (g.E.Sink.state c.tell_of_file-in-TooLarge.new.err)) (sym c.in-TooLarge.is)
    c.tell_of_file-in-TooLarge.ensures

pub returns-in-NoRoom : goal.returns-in-NoRoom
returns-in-NoRoom g c =
    subst (λ f. TellsHalt (g.O.Outlet.is_closed c.args.out.now) (type_asked c.args.args.now)
    c.args.args.now.file.now f (g.E.Sink.state c.args.err.now)
    (g.E.Sink.state c.tell_of_file-in-NoRoom.new.err)) (sym c.in-NoRoom.is) c.tell_of_file-in-NoRoom.ensures

pub returns-in-Ended : goal.returns-in-Ended
returns-in-Ended g c =
    subst (λ f. TellsHalt (g.O.Outlet.is_closed c.args.out.now) (type_asked c.args.args.now)
    c.args.args.now.file.now f (g.E.Sink.state c.args.err.now) (g.E.Sink.state c.tell_stop.new.err))
    (sym c.in-Ended.is) c.tell_stop.ensures

pub returns-in-Unwritten : goal.returns-in-Unwritten
returns-in-Unwritten g c =
    subst (λ f. TellsHalt (g.O.Outlet.is_closed c.args.out.now) (type_asked c.args.args.now)
    c.args.args.now.file.now f (g.E.Sink.state c.args.err.now) (g.E.Sink.state c.complain_of_output.new.err))
    (sym c.in-Unwritten.is) c.complain_of_output.ensures
