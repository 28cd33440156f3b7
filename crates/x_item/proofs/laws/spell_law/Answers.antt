use Rattle.x_parser.proofs.SpellingLaws.{one_spelling}
use Rattle.x_item.proofs.laws.spell_law.Goals as goal

pub returns : goal.returns
returns c = one_spelling
