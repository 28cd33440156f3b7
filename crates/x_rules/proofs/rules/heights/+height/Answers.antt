use Rattle.std.proofs.Common.{◌≡◌, ◌+◌, ◌∷◌, drop, max, ap, sym, ◌∙◌}
use Rattle.x_trees.specs.Tree.{Struct, Union}
use Rattle.x_trees.specs.View.{view_union, view_body, view_declaration, view_declarations, view_arms}
use Rattle.x_trees.specs.View.{view_default}
use Rattle.x_trees.specs.declared.trees.declaration.Body.TheViews.{out-UnionBody}
use Rattle.x_trees.proofs.Rows.{struct_view, union_parts}
use Rattle.x_rules.specs.Types.{body_height, held_height, fields_height, arms_height, default_height}
use Rattle.x_rules.specs.Tables.{seen_by, capped}
use Rattle.x_rules.proofs.HeightLemmas.{higher, highest, around, higher_two}
use Rattle.x_lists.proofs.ListLemmas.{drop_one, drop_none}
use Rattle.x_rules.proofs.rules.heights.+height.Goals as goal

pub fields_height-loop-declaration-preserved : goal.fields_height-loop-declaration-preserved
fields_height-loop-declaration-preserved t c =
    let i = c.loop-declaration.declaration-index in
    let ds = c.args.declarations.now in
    let see = seen_by c.args.sights.now in
    let item = c.declaration-item.result in
    let rest = drop (i + 1) ds in
    let front : drop i ds ≡ item ∷ rest = drop_one ds i item c.loop-declaration-test.true
    ∙ ap (λ x. x ∷ rest) (sym c.declaration-item.is) in
    ap (λ h. max h (capped (fields_height see (view_declarations rest)))) c.max-height.ensures
    ∙ higher c.loop-declaration.height c.held_height.result (held_height see (view_declaration item))
    (fields_height see (view_declarations rest))
    (capped (fields_height see (view_declarations ds))) c.held_height.ensures
    (sym (ap (λ xs. max c.loop-declaration.height (capped (fields_height see (view_declarations xs)))) front)
    ∙ c.loop-declaration.invariant)

pub fields_height-returns : goal.fields_height-returns
fields_height-returns t c =
    let ds = c.args.declarations.now in
    let see = seen_by c.args.sights.now in
    highest c.loop-declaration.height (capped (fields_height see (view_declarations ds)))
    (sym (ap (λ xs. max c.loop-declaration.height (capped (fields_height see (view_declarations xs))))
    (drop_none ds c.loop-declaration.declaration-index c.loop-declaration-test.false))
    ∙ c.loop-declaration.invariant)

pub arms_height-loop-arm-preserved : goal.arms_height-loop-arm-preserved
arms_height-loop-arm-preserved t c =
    let i = c.loop-arm.arm-index in
    let all = c.args.arms.now in
    let see = seen_by c.args.sights.now in
    let item = c.arm-item.result in
    let rest = drop (i + 1) all in
    let front : drop i all ≡ item ∷ rest = drop_one all i item c.loop-arm-test.true
    ∙ ap (λ x. x ∷ rest) (sym c.arm-item.is) in
    ap (λ h. max h (capped (arms_height see (view_arms rest)))) c.max-height.ensures
    ∙ higher c.loop-arm.height c.held_height.result (held_height see (view_declaration item.declaration))
    (arms_height see (view_arms rest))
    (capped (arms_height see (view_arms all))) c.held_height.ensures
    (sym (ap (λ xs. max c.loop-arm.height (capped (arms_height see (view_arms xs)))) front)
    ∙ c.loop-arm.invariant)

pub arms_height-returns : goal.arms_height-returns
arms_height-returns t c =
    let all = c.args.arms.now in
    let see = seen_by c.args.sights.now in
    highest c.loop-arm.height (capped (arms_height see (view_arms all)))
    (sym (ap (λ xs. max c.loop-arm.height (capped (arms_height see (view_arms xs))))
    (drop_none all c.loop-arm.arm-index c.loop-arm-test.false)) ∙ c.loop-arm.invariant)

pub body_height-returns-in-Struct : goal.body_height-returns-in-Struct
body_height-returns-in-Struct t c =
    let see = seen_by c.args.sights.now in
    let ds = c.in-Struct.declarations.items in
    let is : view_body c.args.body.now ≡ Struct (view_declarations ds) = ap view_body c.in-Struct.is
    ∙ struct_view c.in-Struct.declarations in
    let fields : c.fields_height.result ≡ capped (fields_height see (view_declarations ds)) =
    c.fields_height.ensures
    ∙ ap (λ xs. capped (fields_height see (view_declarations xs))) c.deref.ensures.value in
    around c.saturating_add.result (fields_height see (view_declarations ds)) c.fields_height.result
    c.saturating_add.ensures fields ∙ sym (ap (λ b. capped (body_height see b)) is)

pub body_height-returns-in-Union : goal.body_height-returns-in-Union
body_height-returns-in-Union t c =
    let see = seen_by c.args.sights.now in
    let u = out-UnionBody c.deref-body.result.now in
    let is : view_body c.args.body.now
    ≡ Union (view_declaration u.discriminant) (view_arms u.arms.items) (view_default u.default) =
    ap view_body c.in-Union.is ∙ ap view_union (sym c.deref-body.ensures)
    ∙ union_parts c.deref-body.result.now in
    let arms : c.arms_height-arms.result ≡ capped (arms_height see (view_arms u.arms.items)) =
    c.arms_height-arms.ensures
    ∙ ap (λ xs. capped (arms_height see (view_arms xs))) c.deref-in-Union.ensures.value in
    let others = c.max-others.ensures
    ∙ higher_two c.arms_height-arms.result c.default_height.result (arms_height see (view_arms u.arms.items))
    (default_height see (view_default u.default)) arms c.default_height.ensures in
    let all = c.max-all.ensures
    ∙ higher_two c.held_height.result c.max-others.result (held_height see (view_declaration u.discriminant))
    (max (arms_height see (view_arms u.arms.items)) (default_height see (view_default u.default)))
    c.held_height.ensures others in
    around c.saturating_add-in-Union.result
    (max (held_height see (view_declaration u.discriminant))
    (max (arms_height see (view_arms u.arms.items)) (default_height see (view_default u.default))))
    c.max-all.result c.saturating_add-in-Union.ensures all
    ∙ sym (ap (λ b. capped (body_height see b)) is)
