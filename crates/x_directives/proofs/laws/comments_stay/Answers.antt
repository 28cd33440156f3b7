use Rattle.x_directives.proofs.BlankedLemmas.{comments_stay}
use Rattle.x_directives.proofs.laws.comments_stay.Goals as goal

pub returns : goal.returns
returns c = comments_stay
