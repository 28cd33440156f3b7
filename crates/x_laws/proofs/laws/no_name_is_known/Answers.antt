use Rattle.x_laws.proofs.NoFaults.{nothing_is_known}
use Rattle.x_laws.proofs.laws.no_name_is_known.Goals as goal

pub returns : goal.returns
returns c = nothing_is_known
