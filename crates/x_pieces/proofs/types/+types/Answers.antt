use Rattle.std.proofs.Common.{◌≡◌, ◌++◌, sym, ap, ◌∙◌}
use Rattle.std.proofs.lemmas.Result.{on_ok_weaker}
use Rattle.x_trees.specs.Tree.{Struct, Union}
use Rattle.x_trees.specs.View.{view_body, view_union, view_declaration, view_declarations, view_arms}
use Rattle.x_trees.specs.View.{view_default}
use Rattle.x_trees.specs.declared.trees.declaration.UnionBody.{out-UnionBody}
use Rattle.x_trees.proofs.Rows.{struct_view, union_parts}
use Rattle.x_pieces.specs.InlineTypes.{types_inside}
use Rattle.x_pieces.specs.Views.{view_types}
use Rattle.x_pieces.proofs.PartLemmas.{then_two}
use Rattle.x_pieces.proofs.types.+types.Goals as goal

pub add_inside-returns-in-Struct : goal.add_inside-returns-in-Struct
add_inside-returns-in-Struct t c =
    let is : view_body c.args.body.now ≡ Struct (view_declarations c.in-Struct.declarations.items) =
    ap view_body c.in-Struct.is ∙ struct_view c.in-Struct.declarations in
    on_ok_weaker c.add_fields.result
    (λ last. last ∙ ap (λ b. view_types c.args.types.now.items ++ types_inside c.args.around.now b) (sym is))
    (rw c.deref.ensures.value at c.add_fields.ensures)

pub add_inside-returns-in_ok-add_arms-in-Union : goal.add_inside-returns-in_ok-add_arms-in-Union
add_inside-returns-in_ok-add_arms-in-Union t c =
    let u = out-UnionBody c.deref-body.result.now in
    let is : view_body c.args.body.now
    ≡ Union (view_declaration u.discriminant) (view_arms u.arms.items) (view_default u.default) =
    ap view_body c.in-Union.is ∙ ap view_union (sym c.deref-body.ensures)
    ∙ union_parts c.deref-body.result.now in
    let inside = rw c.deref-in-Union.ensures.value at c.in_ok-add_arms-in-Union.ensures in
    on_ok_weaker c.add_default.result
    (λ last. then_two _ _ _ _ _ _ _ c.in_ok-add_declared-in-Union.ensures inside last
    ∙ ap (λ b. view_types c.args.types.now.items ++ types_inside c.args.around.now b) (sym is))
    c.add_default.ensures
