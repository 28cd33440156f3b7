use Rattle.x_rules.proofs.ResultLaws.{one_results}
use Rattle.x_rules.proofs.laws.one_list_of_results.Goals as goal

pub returns : goal.returns
returns c = one_results
