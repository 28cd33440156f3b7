use Rattle.x_lex.proofs.PlaceLemmas.{by_place, from_places, from_own_places}
use Rattle.x_lex.proofs.laws.tokens_by_place.Goals as goal

pub returns-clause-same : goal.returns-clause-same
returns-clause-same c text ts = (by_place text ts, from_own_places text ts)

pub returns-clause-only : goal.returns-clause-only
returns-clause-only c text ls h = let f = from_places text ls h in (f.tokens, f.are, f.same)
