use Rattle.x_prelude_laws.proofs.Over.{both_faultless, known_faultless}
use Rattle.x_prelude_laws.proofs.laws.results_of_both.Goals as goal

pub returns-clause-both : goal.returns-clause-both
returns-clause-both c = both_faultless

pub returns-clause-known : goal.returns-clause-known
returns-clause-known c = known_faultless
