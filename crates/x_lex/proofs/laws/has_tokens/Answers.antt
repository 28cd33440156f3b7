use Rattle.x_lex.proofs.PlaceLemmas.{text_tokens}
use Rattle.x_lex.proofs.laws.has_tokens.Goals as goal

pub returns : goal.returns
returns c text = text_tokens text
