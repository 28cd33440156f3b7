use Rattle.x_prelude_laws.proofs.AsOne.{definitions_as_one, last_as_one, results_as_one}
use Rattle.x_prelude_laws.proofs.FaultsAsOne.{faults_as_one}
use Rattle.x_prelude_laws.proofs.laws.compiled_as_one.Goals as goal

pub returns-clause-definitions : goal.returns-clause-definitions
returns-clause-definitions c = definitions_as_one

pub returns-clause-results : goal.returns-clause-results
returns-clause-results c = results_as_one

pub returns-clause-faults : goal.returns-clause-faults
returns-clause-faults c = faults_as_one

pub returns-clause-last : goal.returns-clause-last
returns-clause-last c = last_as_one
