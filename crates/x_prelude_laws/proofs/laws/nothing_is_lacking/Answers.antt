use Rattle.x_prelude_laws.proofs.Nothing.{no_fault_unknown, nothing_lacking}
use Rattle.x_prelude_laws.proofs.laws.nothing_is_lacking.Goals as goal

pub returns-clause-names : goal.returns-clause-names
returns-clause-names c = nothing_lacking

pub returns-clause-faults : goal.returns-clause-faults
returns-clause-faults c = no_fault_unknown
