use Rattle.std.proofs.Common.{List, []}
use Rattle.x_outline.specs.Bodies as bodies
use Rattle.x_rules.specs.Tables.{HasNumbers, seen_by}
use Rattle.x_rules.proofs.PlaceLemmas.{Numbered}
use Rattle.x_rules.proofs.rules.constants.Constants.number.Given as goal

-- the enumerators before the place have their numbers
abbrev pub invariant-loop-place : goal.invariant-loop-place
invariant-loop-place l =
    (all : List bodies.EnumeratorAt) → HasNumbers l.fn.self all []
    → Numbered l.self all (seen_by l.sights) l.before l.place
