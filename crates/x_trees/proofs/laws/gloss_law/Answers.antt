use Rattle.x_trees.proofs.GlossLemmas.{words_gloss}
use Rattle.x_trees.proofs.laws.gloss_law.Goals as goal

pub returns : goal.returns
returns c d = words_gloss d
