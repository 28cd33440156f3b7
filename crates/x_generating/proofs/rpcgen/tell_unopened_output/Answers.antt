use Rattle.std.proofs.Common.{sym, subst}
use Rattle.x_generating.specs.Generate.{output_told}
use Rattle.x_args.specs.Telling.{IsTold}
use Rattle.x_generating.proofs.rpcgen.tell_unopened_output.Goals as goal

pub returns-in-NoMemory : goal.returns-in-NoMemory
returns-in-NoMemory g c =
    subst (λ f. IsTold (g.E.Sink.state c.args.err.now) (g.E.Sink.state c.tell_of_file.new.err)
    (output_told c.args.args.now f)) (sym c.in-NoMemory.is) c.tell_of_file.ensures
