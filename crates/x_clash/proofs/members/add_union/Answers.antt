use Rattle.std.proofs.Common.{◌≡◌, ◌++◌, map, sym, ap, ◌∙◌}
use Rattle.std.proofs.lemmas.Result.{on_ok_weaker}
use Rattle.x_trees.specs.View.{view_arms, view_declaration, view_default}
use Rattle.x_trees.specs.declared.trees.declaration.UnionBody.{out-UnionBody}
use Rattle.x_trees.proofs.Rows.{union_parts}
use Rattle.x_outline.specs.Parts.{view_name_at}
use Rattle.x_pieces.proofs.PartLemmas.{then}
use Rattle.x_clash.specs.Given.{arm_names, field_names, fields_after, members_in, variant_names}
use Rattle.x_clash.specs.Views.{view_all}
use Rattle.x_clash.proofs.members.add_union.Goals as goal

pub returns : goal.returns
returns c =
    let u = out-UnionBody c.args.union.now in
    let ns = map view_name_at c.args.names.now in
    let d = view_declaration u.discriminant in
    let a = view_all c.args.list.now.items in
    let one = view_all c.add_field.new.list.items in
    let two = view_all c.add_arms.new.list.items in
    let three = view_all c.add_variant.new.list.items in
    let x = field_names ns d in
    let y = arm_names (fields_after ns d) (view_arms u.arms.items) (view_default u.default) in
    let z = variant_names c.args.around.now c.args.word ns (view_arms u.arms.items)
    (view_default u.default) in
    let arms : two ≡ one ++ y =
    rw c.deref.ensures.value at (rw c.fields_after-left.ensures at c.in_ok-add_arms.ensures) in
    on_ok_weaker c.add_variant.result
    (λ (last : three ≡ two ++ z).
    then a one three x (y ++ z) c.in_ok-add_field.ensures (then one two three y z arms last)
    ∙ ap (λ b. a ++ members_in c.args.around.now c.args.word ns b) (sym (union_parts c.args.union.now)))
    (rw c.deref-2.ensures.value at c.add_variant.ensures)
