use Rattle.x_directives.proofs.BlankedLemmas.{plain_text}
use Rattle.x_directives.proofs.laws.plain_text_stays.Goals as goal

pub returns : goal.returns
returns c = plain_text
