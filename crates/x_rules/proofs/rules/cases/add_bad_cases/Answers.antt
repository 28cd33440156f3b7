use Rattle.std.proofs.Common.{◌≡◌, ◌++◌, map, Fits, w64, true, false, Some, None, ap, sym, ◌∙◌, append-nil}
use Rattle.std.proofs.Common.{rules}
use Rattle.std.specs.Prelude.{option_map}
use Rattle.std.proofs.lemmas.Result.{on_ok_weaker}
use Rattle.x_trees.specs.Tree.{Union}
use Rattle.x_trees.specs.View.{view_union, view_body, view_declaration, view_arms, view_default}
use Rattle.x_trees.specs.declared.trees.declaration.Body.TheViews.{out-UnionBody}
use Rattle.x_trees.proofs.Rows.{union_parts}
use Rattle.x_rules.specs.Cases.{case_faults}
use Rattle.x_rules.specs.KeptViews.{kept_class}
use Rattle.x_outline.specs.Parts.{view_value_at}
use Rattle.x_rules.specs.Tables.{seen_by}
use Rattle.x_rules.specs.Types.{declaration_class}
use Rattle.x_rules.proofs.CaseLemmas.{union_faults}
use Rattle.x_rules.proofs.SortedFaults.{counted_fault}
use Rattle.x_rules.proofs.rules.cases.add_bad_cases.Goals as goal

pub returns-then-has_fault : goal.returns-then-has_fault
returns-then-has_fault c all known h up =
    let b = c.args.body.now in
    let u = out-UnionBody c.deref-union.result.now in
    let see = seen_by c.args.sights.now in
    let d = view_declaration u.discriminant in
    let is : view_body b.body.now ≡ Union d (view_arms u.arms.items) (view_default u.default) =
    ap view_body c.in-Union.is ∙ ap view_union (sym c.deref-union.ensures)
    ∙ union_parts c.deref-union.result.now in
    let fits : Fits w64 b.behind_discriminant = search rules in
    let has = c.if-has_fault.ensures up
    ∙ counted_fault c.args.found.now b.at c.saturating_add.result b.behind_discriminant
    c.saturating_add.ensures fits.fits in
    sym (append-nil c.args.faults.now.items)
    ∙ ap (λ l. c.args.faults.now.items ++ l)
    (union_faults see known c.args.found.now (view_body b.body.now) d (view_arms u.arms.items)
    (view_default u.default) b.at b.behind_discriminant (map view_value_at b.cases.items) true
    (declaration_class see known d) is has (λ i. declaration_class see known d))

pub returns-in-Some : goal.returns-in-Some
returns-in-Some c =
    on_ok_weaker c.add_case_faults.result
    (λ added all known h up.
    let b = c.args.body.now in
    let u = out-UnionBody c.deref-union.result.now in
    let see = seen_by c.args.sights.now in
    let d = view_declaration u.discriminant in
    let now = c.args.faults.now.items in
    let vs = map view_value_at b.cases.items in
    let class = kept_class c.in-Some.class in
    let is : view_body b.body.now ≡ Union d (view_arms u.arms.items) (view_default u.default) =
    ap view_body c.in-Union.is ∙ ap view_union (sym c.deref-union.ensures)
    ∙ union_parts c.deref-union.result.now in
    let fits : Fits w64 b.behind_discriminant = search rules in
    let has = c.if-has_fault.ensures up
    ∙ counted_fault c.args.found.now b.at c.saturating_add.result b.behind_discriminant
    c.saturating_add.ensures fits.fits in
    added all known h
    ∙ ap (λ l. now ++ case_faults see known class (map view_value_at l)) c.deref.ensures.value
    ∙ ap (λ l. now ++ l) (union_faults see known c.args.found.now (view_body b.body.now) d
    (view_arms u.arms.items) (view_default u.default) b.at b.behind_discriminant vs false (Some class) is has
    (sym (ap (option_map kept_class) c.in-Some.is) ∙ c.in_ok-class.ensures all known h)))
    c.add_case_faults.ensures

pub returns-in-None : goal.returns-in-None
returns-in-None c all known h up =
    let b = c.args.body.now in
    let u = out-UnionBody c.deref-union.result.now in
    let see = seen_by c.args.sights.now in
    let d = view_declaration u.discriminant in
    let is : view_body b.body.now ≡ Union d (view_arms u.arms.items) (view_default u.default) =
    ap view_body c.in-Union.is ∙ ap view_union (sym c.deref-union.ensures)
    ∙ union_parts c.deref-union.result.now in
    let fits : Fits w64 b.behind_discriminant = search rules in
    let has = c.if-has_fault.ensures up
    ∙ counted_fault c.args.found.now b.at c.saturating_add.result b.behind_discriminant
    c.saturating_add.ensures fits.fits in
    sym (append-nil c.args.faults.now.items)
    ∙ ap (λ l. c.args.faults.now.items ++ l)
    (union_faults see known c.args.found.now (view_body b.body.now) d (view_arms u.arms.items)
    (view_default u.default) b.at b.behind_discriminant (map view_value_at b.cases.items) false None is has
    (sym (ap (option_map kept_class) c.in-None.is) ∙ c.in_ok-class.ensures all known h))
