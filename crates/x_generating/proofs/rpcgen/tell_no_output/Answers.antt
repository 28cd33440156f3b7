use Rattle.std.proofs.Common.{◌++◌, codes, subst}
use Rattle.x_args.specs.Telling.{IsTold}
use Rattle.x_opening.proofs.Passing.{now_or}
use Rattle.x_generating.proofs.rpcgen.tell_no_output.Goals as goal

pub returns : goal.returns
returns g c =
    subst (λ name. IsTold (g.E.Sink.state c.args.err.now) (g.E.Sink.state c.tell_of_file.new.err)
    (codes "rpcgen: " ++ name ++ codes ": cannot be written\n"))
    (now_or c.args.args.now.output _ c.unwrap_or-name.result c.unwrap_or-name.ensures) c.tell_of_file.ensures
