use Rattle.std.proofs.Common.{ap, sym, ◌∙◌}
use Rattle.x_trees.specs.Tree.{Union}
use Rattle.x_trees.specs.View.{view_arms, view_declaration, view_default, view_union}
use Rattle.x_trees.proofs.Rows.{union_view}
use Rattle.x_trees.proofs.trees.declaration.union_body.Goals as goal

pub returns : goal.returns
returns c =
    ap view_union c.in_ok-new.ensures.ok ∙ union_view c.args.discriminant c.fitted.result c.args.default
    ∙ ap (λ arms. Union (view_declaration c.args.discriminant) (view_arms arms) (view_default c.args.default))
    (sym c.fitted.ensures)
