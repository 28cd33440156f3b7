use Rattle.std.proofs.Common.{◌≡◌, ◌++◌, drop}
use Rattle.x_trees.specs.View.{view_arms, view_default}
use Rattle.x_pieces.specs.Header.{arm_lines}
use Rattle.x_pieces.proofs.header.add_arms.Given as goal

-- those so far and those that are left
abbrev pub invariant-loop-arm : goal.invariant-loop-arm
invariant-loop-arm l = l.text.items
    ++ arm_lines l.around (view_arms (drop l.arm-index l.arms)) (view_default l.default)
    ≡ l.fn.text.items ++ arm_lines l.around (view_arms l.arms) (view_default l.default)
