use Rattle.std.proofs.Common.{◌≡◌, ◌++◌, drop}
use Rattle.x_trees.specs.View.{view_declarations, view_arms}
use Rattle.x_pieces.specs.InlineTypes.{types_of_declarations, types_of_arms}
use Rattle.x_pieces.specs.Views.{view_types}
use Rattle.x_pieces.proofs.types.+types.Given as goal

-- those so far and those that are left
abbrev pub invariant-add_fields-loop-declaration : goal.invariant-add_fields-loop-declaration
invariant-add_fields-loop-declaration l =
    view_types l.types.items
    ++ types_of_declarations l.around (view_declarations (drop l.declaration-index l.declarations))
    ≡ view_types l.fn.types.items ++ types_of_declarations l.around (view_declarations l.declarations)

abbrev pub invariant-add_arms-loop-arm : goal.invariant-add_arms-loop-arm
invariant-add_arms-loop-arm l =
    view_types l.types.items ++ types_of_arms l.around (view_arms (drop l.arm-index l.arms))
    ≡ view_types l.fn.types.items ++ types_of_arms l.around (view_arms l.arms)
