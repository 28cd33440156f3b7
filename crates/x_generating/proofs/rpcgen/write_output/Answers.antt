use Rattle.x_generating.specs.Generate.{refused}
use Rattle.x_generating.proofs.rpcgen.write_output.Goals as goal

pub returns-in-Err-clause-failed : goal.returns-in-Err-clause-failed
returns-in-Err-clause-failed g c e = refused c.in-Err.fault c.tell_unopened_output.ensures
