use Rattle.std.proofs.Common.{◌≡◌, ◌++◌, drop}
use Rattle.x_trees.specs.View.{view_declarations}
use Rattle.x_pieces.specs.Header.{field_lines}
use Rattle.x_pieces.proofs.header.add_fields.Given as goal

-- those so far and those that are left
abbrev pub invariant-loop-declaration : goal.invariant-loop-declaration
invariant-loop-declaration l = l.text.items
    ++ field_lines l.around (view_declarations (drop l.declaration-index l.declarations))
    ≡ l.fn.text.items ++ field_lines l.around (view_declarations l.declarations)
