use Rattle.std.proofs.Common.{true, subst}
use Rattle.x_text.specs.Edits.{edited_by}
use Rattle.x_lex.specs.Relex.{IsMeeting}
use Rattle.x_lex.proofs.TilingLemmas.{same_tiles}
use Rattle.x_lex.proofs.MeetingLemmas.{same_meeting}
use Rattle.x_lex.proofs.laws.one_meeting.Goals as goal

pub returns : goal.returns
returns c change ts vs us ws p q of_old also_old of_new also_new h k =
    same_meeting change ts us of_new p q h
    (subst (λ l. IsMeeting change l us q) (same_tiles true change.old vs ts also_old of_old)
    (subst (λ l. IsMeeting change vs l q) (same_tiles true (edited_by change) ws us also_new of_new) k))
