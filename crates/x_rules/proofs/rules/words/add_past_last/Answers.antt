use Rattle.std.specs.Prelude.{slice_get, option_and_then}
use Rattle.std.proofs.Common.{◌++◌, map, ap, ◌∙◌}
use Rattle.x_rules.specs.Found.{fault_at, past_last}
use Rattle.x_trees.specs.View.{view_most}
use Rattle.x_outline.specs.Parts.{view_enumerator_at}
use Rattle.x_rules.proofs.PastLastLemmas.{past_next, past_none}
use Rattle.x_rules.proofs.rules.words.add_past_last.Goals as goal

pub loop-place-preserved : goal.loop-place-preserved
loop-place-preserved c all known h =
    let place = c.loop-place.place in
    let es = c.items-list.result.now in
    let here = c.index-list-place.result in
    past_next c.loop-place.faults.items _ _ all known es c.args.constants.now.numbers place here
    c.loop-place-test.true (ap (map view_enumerator_at) c.items-list.ensures ∙ h.list) h.numbers h.front
    (c.in_ok-add_fault.ensures ∙ ap (λ code. c.loop-place.faults.items ++ fault_at here.word code)
    (c.past_last-code.ensures ∙ ap (past_last (view_most here.enumerator.now.value)) c.number_in.ensures)
    ∙ ap (λ x. c.loop-place.faults.items
    ++ fault_at x.word (past_last (view_most x.enumerator.now.value)
    (option_and_then (λ n. n) (slice_get c.args.constants.now.numbers place)))) c.index-list-place.is)
    (c.loop-place.invariant all known h)

pub returns : goal.returns
returns c all known h = past_none c.items-list.result.now all known c.loop-place.place
    (ap (map view_enumerator_at) c.items-list.ensures ∙ h.list) h.front c.loop-place-test.false
    (c.loop-place.invariant all known h)
