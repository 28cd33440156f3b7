use Rattle.std.proofs.Common.{◌≡◌, ◌+◌, ◌∷◌, ◌++◌, map, drop, ap, sym, ◌∙◌}
use Rattle.std.proofs.lemmas.List.{drop_more}
use Rattle.x_rules.specs.Cases.{case_fault}
use Rattle.x_rules.specs.Constants.{limit_of, number_by}
use Rattle.x_rules.specs.Found.{fault_at}
use Rattle.x_rules.specs.KeptViews.{kept_class}
use Rattle.x_outline.specs.Parts.{view_value_at}
use Rattle.x_rules.specs.Tables.{seen_by}
use Rattle.x_lists.proofs.ListLemmas.{drop_none, listed_more, listed_all}
use Rattle.x_rules.proofs.rules.cases.add_case_faults.Goals as goal

pub loop-case-preserved : goal.loop-case-preserved
loop-case-preserved c all known h =
    let at = c.loop-case.case-index in
    let vs = c.args.cases.now in
    let here = c.case-item.result in
    let class = kept_class c.args.class.now in
    let now = c.loop-case.faults.items in
    let is : drop at vs ≡ here ∷ drop (at + 1) vs = drop_more vs at _ c.loop-case-test.true
    ∙ ap (λ x. x ∷ drop (at + 1) vs) (sym c.case-item.is) in
    listed_more (λ v. fault_at v.word
    (case_fault class (number_by (seen_by c.args.sights.now) known (limit_of v.word) v.value))) now
    c.add_fault.new.faults.items
    (map view_value_at (drop at vs)) (view_value_at here) (map view_value_at (drop (at + 1) vs)) _
    (ap (map view_value_at) is)
    (c.in_ok-add_fault.ensures ∙ ap (λ o. now ++ fault_at here.word o) (c.case_fault.ensures
    ∙ ap (case_fault class) (c.number_at-number.ensures all known h)))
    (c.loop-case.invariant all known h)

pub returns : goal.returns
returns c all known h =
    listed_all (λ v. fault_at v.word (case_fault (kept_class c.args.class.now)
    (number_by (seen_by c.args.sights.now) known (limit_of v.word) v.value))) c.loop-case.faults.items _ _
    (ap (map view_value_at) (drop_none c.args.cases.now c.loop-case.case-index c.loop-case-test.false))
    (c.loop-case.invariant all known h)
