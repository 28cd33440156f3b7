use Rattle.x_names.proofs.DeclarerLaws.{one_answer, first_is}
use Rattle.x_names.proofs.laws.one_first_declarer.Goals as goal

pub returns-clause-one : goal.returns-clause-one
returns-clause-one c = one_answer

pub returns-clause-found : goal.returns-clause-found
returns-clause-found c = first_is
