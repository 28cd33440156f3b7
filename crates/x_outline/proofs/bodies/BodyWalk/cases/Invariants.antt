use Rattle.std.proofs.Common.{drop, map}
use Rattle.x_trees.specs.View.{view_value}
use Rattle.x_outline.specs.BodyWalks.{Stand, GoesCases, stand}
use Rattle.x_outline.proofs.bodies.BodyWalk.cases.Given as goal

abbrev pub invariant-loop-value : goal.invariant-loop-value
invariant-loop-value l =
    (to : Stand) → GoesCases (stand l.self l.contents) to (map view_value (drop l.value-index l.cases))
    → GoesCases (stand l.fn.self l.fn.contents) to (map view_value l.cases)
