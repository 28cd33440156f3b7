use Rattle.std.proofs.Common.{◌≡◌, ◌∷◌, ◌+◌, drop, ap, sym, ◌∙◌}
use Rattle.std.proofs.lemmas.Result.{on_ok_weaker}
use Rattle.x_trees.specs.Tree.{Struct}
use Rattle.x_trees.specs.View.{view_body, view_declarations, view_arms, view_default}
use Rattle.x_trees.specs.declared.trees.declaration.Body.TheViews.{out-UnionBody}
use Rattle.x_trees.proofs.Rows.{struct_view, union_parts}
use Rattle.x_schema.specs.SchemaOf.{with_body, with_declarations, with_arms, with_default}
use Rattle.x_lists.proofs.ListLemmas.{drop_one, drop_none}
use Rattle.x_schema.proofs.constants.Constants.+constants.Goals as goal

pub arms-loop-arm-preserved : goal.arms-loop-arm-preserved
arms-loop-arm-preserved t c =
    let i = c.loop-arm.arm-index in
    let all = c.args.arms.now in
    let item = c.arm-item.result in
    let rest = drop (i + 1) all in
    let front : drop i all ≡ item ∷ rest = drop_one all i item c.loop-arm-test.true
    ∙ ap (λ x. x ∷ rest) (sym c.arm-item.is) in
    ap (λ n. with_arms n (view_arms rest)) c.in_ok-declaration.ensures
    ∙ sym (ap (λ xs. with_arms c.loop-arm.self (view_arms xs)) front) ∙ c.loop-arm.invariant

pub arms-returns : goal.arms-returns
arms-returns t c =
    sym (ap (λ xs. with_arms c.loop-arm.self (view_arms xs))
    (drop_none c.args.arms.now c.loop-arm.arm-index c.loop-arm-test.false)) ∙ c.loop-arm.invariant

pub declarations-loop-declaration-preserved : goal.declarations-loop-declaration-preserved
declarations-loop-declaration-preserved t c =
    let i = c.loop-declaration.declaration-index in
    let all = c.args.declarations.now in
    let item = c.declaration-item.result in
    let rest = drop (i + 1) all in
    let front : drop i all ≡ item ∷ rest = drop_one all i item c.loop-declaration-test.true
    ∙ ap (λ x. x ∷ rest) (sym c.declaration-item.is) in
    ap (λ n. with_declarations n (view_declarations rest)) c.in_ok-declaration.ensures
    ∙ sym (ap (λ xs. with_declarations c.loop-declaration.self (view_declarations xs)) front)
    ∙ c.loop-declaration.invariant

pub declarations-returns : goal.declarations-returns
declarations-returns t c =
    sym (ap (λ xs. with_declarations c.loop-declaration.self (view_declarations xs))
    (drop_none c.args.declarations.now c.loop-declaration.declaration-index c.loop-declaration-test.false))
    ∙ c.loop-declaration.invariant

pub body-returns-in-Struct : goal.body-returns-in-Struct
body-returns-in-Struct t c =
    let ds = c.in-Struct.declarations.items in
    let held = c.args.self.now in
    let is : view_body c.args.body.now ≡ Struct (view_declarations ds) = ap view_body c.in-Struct.is
    ∙ struct_view c.in-Struct.declarations in
    on_ok_weaker c.declarations.result
    (λ x. x ∙ ap (λ xs. with_declarations held (view_declarations xs)) c.deref-in-Struct.ensures.value
    ∙ sym (ap (with_body held) is))
    c.declarations.ensures

pub union-returns : goal.union-returns
union-returns t c =
    let u = out-UnionBody c.args.body.now in
    let held = c.args.self.now in
    on_ok_weaker c.default.result
    (λ x. x ∙ ap (λ n. with_default n (view_default u.default)) (c.in_ok-arms.ensures
    ∙ ap (λ xs. with_arms c.declaration.new.self (view_arms xs)) c.deref.ensures.value
    ∙ ap (λ n. with_arms n (view_arms u.arms.items)) c.in_ok-declaration.ensures)
    ∙ sym (ap (with_body held) (union_parts c.args.body.now)))
    c.default.ensures
