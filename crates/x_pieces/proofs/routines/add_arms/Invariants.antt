use Rattle.std.proofs.Common.{◌≡◌, ◌++◌, drop}
use Rattle.x_trees.specs.View.{view_arms}
use Rattle.x_pieces.specs.Routines.{arms_calls}
use Rattle.x_pieces.proofs.routines.add_arms.Given as goal

-- those so far and those that are left
abbrev pub invariant-loop-arm : goal.invariant-loop-arm
invariant-loop-arm l = l.text.items ++ arms_calls l.name (view_arms (drop l.arm-index l.arms))
    ≡ l.fn.text.items ++ arms_calls l.name (view_arms l.arms)
