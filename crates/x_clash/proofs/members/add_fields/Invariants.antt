use Rattle.std.proofs.Common.{◌≡◌, ◌++◌, drop, map}
use Rattle.x_trees.specs.View.{view_declarations}
use Rattle.x_outline.specs.Parts.{view_name_at}
use Rattle.x_clash.specs.Given.{struct_names}
use Rattle.x_clash.specs.Views.{view_all}
use Rattle.x_clash.proofs.members.add_fields.Given as goal

-- those so far and those that are left
abbrev pub invariant-loop-declaration : goal.invariant-loop-declaration
invariant-loop-declaration l =
    view_all l.list.items
    ++ struct_names (map view_name_at l.names) (view_declarations (drop l.declaration-index l.declarations))
    ≡ view_all l.fn.list.items ++ struct_names (map view_name_at l.initial.names)
    (view_declarations l.declarations)
