use Rattle.x_directives.proofs.BlankedLemmas.{same_length}
use Rattle.x_directives.proofs.laws.blanked_length.Goals as goal

pub returns : goal.returns
returns c = same_length
