use Rattle.std.proofs.Common.{◌≡◌, ◌+◌, ◌∷◌, ◌++◌, map, drop, ap, sym, ◌∙◌}
use Rattle.x_trees.specs.Collected.{view_name}
use Rattle.x_rules.specs.Found.{fault_at, too_high}
use Rattle.x_lists.proofs.ListLemmas.{drop_one, drop_none, listed_more, listed_all}
use Rattle.x_rules.proofs.rules.heights.add_too_high_names.Goals as goal

pub loop-name-preserved : goal.loop-name-preserved
loop-name-preserved c =
    let at = c.loop-name.name-index in
    let all = c.args.declared.now in
    let here = c.name-item.result in
    let is : drop at all ≡ here ∷ drop (at + 1) all = drop_one all at here c.loop-name-test.true
    ∙ ap (λ x. x ∷ drop (at + 1) all) (sym c.name-item.is) in
    listed_more (λ x. fault_at x.word (too_high c.args.high x)) c.loop-name.faults.items
    c.add_fault.new.faults.items
    (map view_name (drop at all)) (view_name here) (map view_name (drop (at + 1) all)) _
    (ap (map view_name) is)
    (c.in_ok-add_fault.ensures ∙ ap (λ code. c.loop-name.faults.items ++ fault_at here.word code)
    c.too_high_fault-code.ensures) c.loop-name.invariant

pub returns : goal.returns
returns c =
    listed_all (λ x. fault_at x.word (too_high c.args.high x)) c.loop-name.faults.items _ _
    (ap (map view_name) (drop_none c.args.declared.now c.loop-name.name-index c.loop-name-test.false))
    c.loop-name.invariant
