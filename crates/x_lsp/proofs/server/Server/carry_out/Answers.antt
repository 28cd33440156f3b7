use Rattle.std.proofs.Common.{Some, ap, refl}
use Rattle.serde_json.specs.View.{view}
use Rattle.x_frames.specs.Answers.{answered, failed}
use Rattle.x_frames.specs.declared.answers.ErrorCode.TheVariants.{InternalError}
use Rattle.x_contents.specs.Kept.{found_text}
use Rattle.x_lsp.proofs.AnsweringLemmas.{answered_by, refused_by, said_so, unanswered_by}
use Rattle.x_lsp.proofs.server.Server.carry_out.Goals as goal

pub returns-in-Ok-new-clause-said : goal.returns-in-Ok-new-clause-said
returns-in-Ok-new-clause-said c =
    let text = c.in-Ok.ensures.text in
    answered text.0
    (said_so (view c.args.id.now) text.0 (found_text c.in-Ok.found) _ text.1
    (ap Some c.in-Ok-new.ensures)) c.go_on.ensures.life

pub returns-in-Err-new-clause-said : goal.returns-in-Err-new-clause-said
returns-in-Err-new-clause-said c = failed InternalError refl c.refused.ensures refl

pub returns-in-Err-clause-said : goal.returns-in-Err-clause-said
returns-in-Err-clause-said c = failed c.in-Err.code c.in-Err.ensures.code c.refused-in-Err.ensures refl

pub returns-in-Ok-new-clause-asked : goal.returns-in-Ok-new-clause-asked
returns-in-Ok-new-clause-asked c = λ question is.
    answered_by (view c.args.id.now) question _ _ c.in-Ok.found _ (c.in-Ok.ensures.asked question is)
    (ap Some c.in-Ok-new.ensures)

pub returns-in-Err-new-clause-asked : goal.returns-in-Err-new-clause-asked
returns-in-Err-new-clause-asked c = λ question is.
    unanswered_by (view c.args.id.now) question _ _ c.in-Ok.found _
    (c.in-Ok.ensures.asked question is) c.refused.ensures

pub returns-in-Err-clause-asked : goal.returns-in-Err-clause-asked
returns-in-Err-clause-asked c = λ question is.
    refused_by (view c.args.id.now) question _ _ c.in-Err.code _
    (c.in-Err.ensures.asked question is) c.refused-in-Err.ensures
