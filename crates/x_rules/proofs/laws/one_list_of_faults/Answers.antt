use Rattle.x_rules.proofs.FaultLists.{one_faults}
use Rattle.x_rules.proofs.laws.one_list_of_faults.Goals as goal

pub returns : goal.returns
returns c = one_faults
