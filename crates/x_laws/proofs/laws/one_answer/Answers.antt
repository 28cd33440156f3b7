use Rattle.x_laws.proofs.OneAnswer.{one_line, one_script}
use Rattle.x_laws.proofs.laws.one_answer.Goals as goal

pub returns-clause-line : goal.returns-clause-line
returns-clause-line c = one_line

pub returns-clause-script : goal.returns-clause-script
returns-clause-script c = one_script
