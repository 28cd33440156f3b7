use Rattle.std.proofs.Common.{◌≡◌, ◌++◌, drop, map}
use Rattle.x_trees.specs.View.{view_arms, view_default}
use Rattle.x_outline.specs.Parts.{view_name_at}
use Rattle.x_clash.specs.Given.{arm_names}
use Rattle.x_clash.specs.Views.{view_all}
use Rattle.x_clash.proofs.members.add_arms.Given as goal

-- those so far and those that are left
abbrev pub invariant-loop-arm : goal.invariant-loop-arm
invariant-loop-arm l =
    view_all l.list.items
    ++ arm_names (map view_name_at l.names) (view_arms (drop l.arm-index l.arms)) (view_default l.default)
    ≡ view_all l.fn.list.items
    ++ arm_names (map view_name_at l.initial.names) (view_arms l.arms) (view_default l.default)
