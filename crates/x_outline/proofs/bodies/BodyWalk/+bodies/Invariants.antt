use Rattle.std.proofs.Common.{drop}
use Rattle.x_trees.specs.View.{view_declarations, view_arms}
use Rattle.x_outline.specs.BodyWalks.{Stand, GoesFields, GoesArms, stand}
use Rattle.x_outline.proofs.bodies.BodyWalk.+bodies.Given as goal

abbrev pub invariant-arms-loop-arm : goal.invariant-arms-loop-arm
invariant-arms-loop-arm l =
    (to : Stand) → GoesArms (stand l.self l.contents) to (view_arms (drop l.arm-index l.arms))
    → GoesArms (stand l.fn.self l.fn.contents) to (view_arms l.arms)

abbrev pub invariant-declarations-loop-declaration : goal.invariant-declarations-loop-declaration
invariant-declarations-loop-declaration l =
    (to : Stand) → GoesFields (stand l.self l.contents) to
    (view_declarations (drop l.declaration-index l.declarations))
    → GoesFields (stand l.fn.self l.fn.contents) to (view_declarations l.declarations)
