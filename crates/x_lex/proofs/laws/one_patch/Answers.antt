use Rattle.x_lex.proofs.MeetingLemmas.{same_patch}
use Rattle.x_lex.proofs.laws.one_patch.Goals as goal

pub returns : goal.returns
returns c change ts p q h k = same_patch change ts p q h k
