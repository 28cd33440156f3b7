use Rattle.std.proofs.Common.{◌≡◌, ◌++◌, drop, map}
use Rattle.x_outline.specs.Bodies.{enumerators_in}
use Rattle.x_outline.specs.BodyWalks.{AreFilled, view_body_at}
use Rattle.x_outline.specs.Parts.{view_enumerator_at}
use Rattle.x_rules.proofs.rules.constants.enumerators.Given as goal

abbrev pub invariant-loop-body : goal.invariant-loop-body
invariant-loop-body l =
    AreFilled l.bodies → map view_enumerator_at l.list.items
    ++ enumerators_in (map view_body_at (drop l.body-index l.bodies))
    ≡ enumerators_in (map view_body_at l.bodies)
