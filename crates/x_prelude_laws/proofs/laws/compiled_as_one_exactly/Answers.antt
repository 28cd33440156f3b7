use Rattle.x_prelude_laws.proofs.AsOne.{results_exactly}
use Rattle.x_prelude_laws.proofs.FaultsAsOne.{faults_exactly}
use Rattle.x_prelude_laws.proofs.laws.compiled_as_one_exactly.Goals as goal

pub returns-clause-results : goal.returns-clause-results
returns-clause-results c = results_exactly

pub returns-clause-faults : goal.returns-clause-faults
returns-clause-faults c = faults_exactly
