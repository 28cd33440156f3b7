use Rattle.std.proofs.Common.{sym, ◌∙◌}
use Rattle.x_recheck.proofs.SameSights.{same_view}
use Rattle.x_recheck.proofs.rechecking.sights.is_same_view.Goals as goal

pub returns : goal.returns
returns c =
    let decides = same_view c.args.one.now c.args.other.now in
    (λ h. decides.0 (sym c.eq.ensures ∙ h), λ p. c.eq.ensures ∙ decides.1 p)
