use Rattle.x_rules.proofs.ResultLaws as laws
use Rattle.x_rules.proofs.laws.one_outcome.Goals as goal

pub returns : goal.returns
returns c = laws.one_outcome
