use Rattle.x_laws.proofs.NoFaults.{faultless_results}
use Rattle.x_laws.proofs.laws.faultless_results.Goals as goal

pub returns : goal.returns
returns c = faultless_results
