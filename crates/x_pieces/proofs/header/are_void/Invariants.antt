use Rattle.std.proofs.Common.{◌≡◌, drop}
use Rattle.x_trees.specs.View.{view_arms, view_default}
use Rattle.x_pieces.specs.Header.{are_void}
use Rattle.x_pieces.proofs.header.are_void.Given as goal

-- the arms so far have no value
abbrev pub invariant-loop-arm : goal.invariant-loop-arm
invariant-loop-arm l = are_void (view_arms (drop l.arm-index l.arms)) (view_default l.default)
    ≡ are_void (view_arms l.arms) (view_default l.default)
