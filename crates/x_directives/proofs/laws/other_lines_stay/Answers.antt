use Rattle.x_directives.proofs.BlankedLemmas.{others_stay}
use Rattle.x_directives.proofs.laws.other_lines_stay.Goals as goal

pub returns : goal.returns
returns c = others_stay
