use Rattle.x_prelude_laws.proofs.Exact.{both_exactly, known_exactly}
use Rattle.x_prelude_laws.proofs.laws.results_of_both_exactly.Goals as goal

pub returns-clause-both : goal.returns-clause-both
returns-clause-both c = both_exactly

pub returns-clause-known : goal.returns-clause-known
returns-clause-known c = known_exactly
