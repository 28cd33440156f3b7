use Rattle.x_lex.proofs.LocalLemmas.{local_token}
use Rattle.x_lex.proofs.laws.token_by_bytes.Goals as goal

pub returns : goal.returns
returns c kind start xs ys n t left right same =
    local_token kind start xs ys n t (record { left = left; right = right; same = same })
