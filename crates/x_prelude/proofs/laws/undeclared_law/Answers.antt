use Rattle.x_prelude.proofs.LackingLemmas.{undeclared}
use Rattle.x_prelude.proofs.laws.undeclared_law.Goals as goal

pub returns : goal.returns
returns c = undeclared
