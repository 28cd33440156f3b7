use Rattle.std.proofs.Common.{◌≡◌, ◌++◌, sym, ap, ◌∙◌}
use Rattle.std.proofs.lemmas.Result.{on_ok_weaker}
use Rattle.x_trees.specs.Tree.{Struct}
use Rattle.x_trees.specs.View.{view_body, view_declarations}
use Rattle.x_trees.proofs.Rows.{struct_view}
use Rattle.x_outline.specs.Bodies.{fields_of}
use Rattle.x_outline.specs.BodyWalks.{view_body_at}
use Rattle.x_clash.specs.Given.{members_in}
use Rattle.x_clash.specs.Views.{view_all}
use Rattle.x_clash.proofs.members.add_members.Goals as goal

pub returns-in-Struct : goal.returns-in-Struct
returns-in-Struct c =
    let body = c.args.body.now in
    let old = view_all c.args.list.now.items in
    let around = c.args.around.now in
    let is : view_body body.body.now ≡ Struct (view_declarations c.in-Struct.declarations.items) =
    ap view_body c.in-Struct.is ∙ struct_view c.in-Struct.declarations in
    on_ok_weaker c.add_fields.result
    (λ last filled. last
    ∙ ap (λ ns. old ++ members_in around body.named ns
    (Struct (view_declarations c.in-Struct.declarations.items)))
    filled.fields
    ∙ ap (λ b. old ++ members_in around body.named (fields_of (view_body_at body)) b) (sym is))
    (rw c.deref-in-Struct.ensures.value at (rw c.deref.ensures.value at c.add_fields.ensures))
