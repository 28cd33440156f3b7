use Rattle.std.proofs.Common.{refl}
use Rattle.x_outline.proofs.bodies.bodies_into.Goals as goal

pub returns-clause-bodies : goal.returns-clause-bodies
returns-clause-bodies c short = (c.in_ok-definition.ensures.by refl c.clear.ensures.items short).bodies

pub returns-clause-filled : goal.returns-clause-filled
returns-clause-filled c short = (c.in_ok-definition.ensures.by refl c.clear.ensures.items short).filled
