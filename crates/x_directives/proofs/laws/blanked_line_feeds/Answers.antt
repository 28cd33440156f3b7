use Rattle.x_directives.proofs.BlankedLemmas.{feeds_stay}
use Rattle.x_directives.proofs.laws.blanked_line_feeds.Goals as goal

pub returns : goal.returns
returns c = feeds_stay
