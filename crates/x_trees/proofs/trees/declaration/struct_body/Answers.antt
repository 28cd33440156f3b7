use Rattle.std.proofs.Common.{ap, sym, ◌∙◌}
use Rattle.x_trees.specs.Tree.{Struct}
use Rattle.x_trees.specs.View.{view_declarations}
use Rattle.x_trees.proofs.Rows.{struct_view}
use Rattle.x_trees.proofs.trees.declaration.struct_body.Goals as goal

pub returns : goal.returns
returns c = struct_view c.fitted.result
    ∙ ap (λ members. Struct (view_declarations members)) (sym c.fitted.ensures)
