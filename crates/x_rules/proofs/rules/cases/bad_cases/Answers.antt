use Rattle.std.proofs.Common.{◌≡◌, ◌+◌, ◌∷◌, drop, ap, sym, ◌∙◌}
use Rattle.std.proofs.lemmas.List.{drop_more}
use Rattle.x_rules.specs.Cases.{bad_cases_of}
use Rattle.x_rules.specs.Tables.{seen_by}
use Rattle.x_lists.proofs.ListLemmas.{drop_none, listed_more, listed_all}
use Rattle.x_rules.proofs.rules.cases.bad_cases.Goals as goal

pub loop-body-preserved : goal.loop-body-preserved
loop-body-preserved c all known h up =
    let at = c.loop-body.body-index in
    let bs = c.args.bodies.now in
    let here = c.body-item.result in
    let is : drop at bs ≡ here ∷ drop (at + 1) bs = drop_more bs at _ c.loop-body-test.true
    ∙ ap (λ x. x ∷ drop (at + 1) bs) (sym c.body-item.is) in
    listed_more (bad_cases_of (seen_by c.args.sights.now) known c.args.found.now) c.loop-body.faults.items
    c.add_bad_cases.new.faults.items (drop at bs) here (drop (at + 1) bs) _ is
    (c.in_ok-add_bad_cases.ensures all known h up) (c.loop-body.invariant all known h up)

pub returns : goal.returns
returns c all known h up =
    listed_all (bad_cases_of (seen_by c.args.sights.now) known c.args.found.now) c.loop-body.faults.items _ _
    (drop_none c.args.bodies.now c.loop-body.body-index c.loop-body-test.false)
    (c.loop-body.invariant all known h up)
