use Rattle.std.proofs.Common.{Ok, refl, subst}
use Rattle.x_frames.specs.FrameSteps.{FrontIs}
use Rattle.x_frames.proofs.CancelLemmas.{whole_front}
use Rattle.x_frames.proofs.cancelling.front_of.Goals as goal

pub returns : goal.returns
returns c =
    let bytes = c.args.bytes.now in
    let head = c.in-Ok-Some.head in
    whole_front bytes head _ (subst (λ f. FrontIs (Ok f) bytes) c.in-Ok-Some.field-0-is c.in-Ok-Some.ensures)
    (c.if-not-is_whole.ensures refl) refl
