use Rattle.std.proofs.Common.{sym, ◌∙◌}
use Rattle.x_recheck.proofs.SameSights.{same_meaning}
use Rattle.x_recheck.proofs.rechecking.checking.is_same_meaning.Goals as goal

pub returns : goal.returns
returns c h = (same_meaning c.args.one.now c.args.other.now).0 (sym c.eq.ensures ∙ h)
