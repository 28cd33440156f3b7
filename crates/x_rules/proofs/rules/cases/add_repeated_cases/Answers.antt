use Rattle.std.proofs.Common.{◌≡◌, ◌+◌, ◌∷◌, ◌++◌, map, drop, ap, sym, ◌∙◌}
use Rattle.std.proofs.lemmas.List.{drop_more}
use Rattle.x_rules.specs.Found.{repeated_cases, repeated_numbers}
use Rattle.x_outline.specs.Parts.{view_value_at}
use Rattle.x_rules.specs.Tables.{seen_by}
use Rattle.x_rules.specs.declared.fault.RuleCode.TheVariants as codes
use Rattle.x_lists.proofs.ListLemmas.{drop_none, listed_more, listed_all}
use Rattle.x_rules.proofs.rules.cases.add_repeated_cases.Goals as goal

pub loop-body-preserved : goal.loop-body-preserved
loop-body-preserved c all known h =
    let at = c.loop-body.body-index in
    let bs = c.args.bodies.now in
    let here = c.body-item.result in
    let now = c.loop-body.faults.items in
    let is : drop at bs ≡ here ∷ drop (at + 1) bs = drop_more bs at _ c.loop-body-test.true
    ∙ ap (λ x. x ∷ drop (at + 1) bs) (sym c.body-item.is) in
    listed_more (λ b. repeated_cases (seen_by c.args.sights.now) known (map view_value_at b.cases.items)) now
    c.add_repeated_numbers.new.faults.items (drop at bs) here (drop (at + 1) bs) _ is
    (c.in_ok-add_repeated_numbers.ensures ∙ ap (λ l. now ++ repeated_numbers codes.RepeatedCase l)
    (c.deref-in-loop-body.ensures.value ∙ c.in_ok-numbers.ensures all known h)
    ∙ ap (λ l. now ++ repeated_cases (seen_by c.args.sights.now) known (map view_value_at l))
    c.deref.ensures.value)
    (c.loop-body.invariant all known h)

pub returns : goal.returns
returns c all known h =
    listed_all (λ b. repeated_cases (seen_by c.args.sights.now) known (map view_value_at b.cases.items))
    c.loop-body.faults.items _ _ (drop_none c.args.bodies.now c.loop-body.body-index c.loop-body-test.false)
    (c.loop-body.invariant all known h)
