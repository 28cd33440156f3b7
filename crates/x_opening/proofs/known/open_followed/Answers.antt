use Rattle.std.proofs.Common.{◌⊎◌, ◌<◌, length, subst}
use Rattle.x_text.specs.Limits.{most_text}
use Rattle.x_prelude.specs.Before.{IsCrowded}
use Rattle.x_opening.proofs.known.open_followed.Goals as goal

-- What stands before the text is the text of the known files.
pub returns-clause-large : goal.returns-clause-large
returns-clause-large c is_large = subst
    (λ f. (most_text < length c.args.bytes.now) ⊎ IsCrowded f c.args.how.now.from_c c.args.bytes.now)
    c.deref.ensures.value (c.open.ensures.large is_large)
