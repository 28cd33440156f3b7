use Rattle.std.proofs.Common.{sym, subst}
use Rattle.x_opening.specs.Opened.{unopened_told}
use Rattle.x_args.specs.Telling.{IsTold}
use Rattle.x_opening.proofs.complaint.tell_unopened.Goals as goal

pub returns-in-NoMemory : goal.returns-in-NoMemory
returns-in-NoMemory g c =
    subst (λ f. IsTold (g.E.Sink.state c.args.err.now) (g.E.Sink.state c.tell_of_file-in-NoMemory.new.err)
    (unopened_told c.args.program.now c.args.file.now f))
    (sym c.in-NoMemory.is) c.tell_of_file-in-NoMemory.ensures

pub returns-in-BadRange : goal.returns-in-BadRange
returns-in-BadRange g c =
    subst (λ f. IsTold (g.E.Sink.state c.args.err.now) (g.E.Sink.state c.tell_of_file-in-BadRange.new.err)
    (unopened_told c.args.program.now c.args.file.now f))
    (sym c.in-BadRange.is) c.tell_of_file-in-BadRange.ensures
