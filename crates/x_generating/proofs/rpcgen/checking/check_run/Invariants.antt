use Rattle.x_generating.specs.Checking.{AreChecked}
use Rattle.x_generating.proofs.Checking.{firsts}
use Rattle.x_generating.proofs.rpcgen.checking.check_run.Given as goal

abbrev pub invariant-loop-file : goal.invariant-loop-file
invariant-loop-file g l = AreChecked l.args.strict l.how (firsts l.file-index l.file-items)
    (g.E.Sink.state l.initial.err) (g.E.Sink.state l.err) l.status
