use Rattle.std.proofs.Common.{◌≡◌, ◌+◌, ◌∷◌, ◌++◌, map, drop, ap, sym, ◌∙◌}
use Rattle.std.proofs.lemmas.List.{drop_more}
use Rattle.x_rules.specs.Constants.{limit_of, number_by}
use Rattle.x_rules.specs.Found.{numbered}
use Rattle.x_outline.specs.Parts.{view_value_at}
use Rattle.x_rules.specs.Tables.{seen_by}
use Rattle.x_lists.proofs.ListLemmas.{drop_none, listed_more, listed_all}
use Rattle.x_rules.proofs.rules.cases.case_numbers.Goals as goal

pub loop-case-preserved : goal.loop-case-preserved
loop-case-preserved c all known h =
    let at = c.loop-case.case-index in
    let vs = c.args.cases.now in
    let here = c.case-item.result in
    let is : drop at vs ≡ here ∷ drop (at + 1) vs = drop_more vs at _ c.loop-case-test.true
    ∙ ap (λ x. x ∷ drop (at + 1) vs) (sym c.case-item.is) in
    listed_more (λ v. numbered v.word (number_by (seen_by c.args.sights.now) known (limit_of v.word) v.value))
    c.loop-case.list.items c.add_number.new.list.items
    (map view_value_at (drop at vs)) (view_value_at here) (map view_value_at (drop (at + 1) vs)) _
    (ap (map view_value_at) is)
    (c.in_ok-add_number.ensures
    ∙ ap (λ n. c.loop-case.list.items ++ numbered here.word n) (c.number_at-number.ensures all known h))
    (c.loop-case.invariant all known h)

pub returns : goal.returns
returns c all known h =
    listed_all (λ v. numbered v.word (number_by (seen_by c.args.sights.now) known (limit_of v.word) v.value))
    c.loop-case.list.items _ _
    (ap (map view_value_at) (drop_none c.args.cases.now c.loop-case.case-index c.loop-case-test.false))
    (c.loop-case.invariant all known h)
