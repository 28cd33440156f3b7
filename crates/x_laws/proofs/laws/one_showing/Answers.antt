use Rattle.x_laws.proofs.AlikeProcedures.{calls_show}
use Rattle.x_laws.proofs.OneShowing.{types_show}
use Rattle.x_laws.proofs.laws.one_showing.Goals as goal

pub returns-clause-types : goal.returns-clause-types
returns-clause-types c = types_show

pub returns-clause-procedures : goal.returns-clause-procedures
returns-clause-procedures c = calls_show
