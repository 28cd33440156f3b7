use Rattle.x_rules.proofs.HasResults as exist
use Rattle.x_rules.proofs.laws.has_results.Goals as goal

pub returns : goal.returns
returns c = exist.has_results
