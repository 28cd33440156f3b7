use Rattle.x_explain.proofs.ColumnLemmas.{under_word}
use Rattle.x_explain.proofs.laws.mark_under_word.Goals as goal

pub returns : goal.returns
returns c = under_word
