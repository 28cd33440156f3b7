use Rattle.std.proofs.Common.{◌≡◌, ◌∙◌, ◌+◌, length, true, false, ap, sym, subst, arith}
use Rattle.std.proofs.lemmas.List.Sums.{count_by-le-length}
use Rattle.x_compile.specs.Compile.{places_of}
use Rattle.x_compile.specs.declared.fault.FaultPlace.{FaultPlace}
use Rattle.x_compile.proofs.Compiled.{one_compilation}
use Rattle.x_compile.proofs.FaultLemmas.{places_many}
use Rattle.x_explain.specs.Explained.{is_note, notes_at}
use Rattle.x_explain.proofs.PassLemmas.{note_more}
use Rattle.x_explain.proofs.explained.error_count.Goals as goal

pub loop-place-init : goal.loop-place-init
loop-place-init c =
    let count = c.fault_count-errors.ensures in
    let all = c.fault_places-place-items.ensures in
    let text = c.args.session.now.text in
    let places = c.into_iter-place-iterator.result in
    let same = (one_compilation c.args.session.now.known text count.0 all.0 count.1 all.1 count.2 all.2).1 in
    let many : c.fault_count-errors.result ≡ length places = count.3 ∙ places_many text 0 count.1
    ∙ ap (λ items. length (places_of items)) same
    ∙ ap length (sym all.3) ∙ ap length (sym c.into_iter-place-iterator.ensures.into_iter_gives) in
    ap (λ n. n + notes_at places) many

pub overflow_sub-errors : goal.overflow_sub-errors
overflow_sub-errors c =
    let all = c.into_iter-place-iterator.result in
    let few = count_by-le-length (λ (p : FaultPlace). is_note p.code) all in
    let more = note_more c.in-Some.place c.next.new.self true (sym c.is_note.ensures ∙ c.if-is_note.true) in
    let now = c.loop-place.invariant ∙ ap (λ l. length all + notes_at l) c.in-Some.ensures.steps in
    omega (arith, few, more, now)

pub loop-place-preserved-then-is_note : goal.loop-place-preserved-then-is_note
loop-place-preserved-then-is_note c =
    let all = c.into_iter-place-iterator.result in
    let few = count_by-le-length (λ (p : FaultPlace). is_note p.code) all in
    let more = note_more c.in-Some.place c.next.new.self true (sym c.is_note.ensures ∙ c.if-is_note.true) in
    let now = c.loop-place.invariant ∙ ap (λ l. length all + notes_at l) c.in-Some.ensures.steps in
    omega (arith, few, more, now)

pub loop-place-preserved : goal.loop-place-preserved
loop-place-preserved c =
    let all = c.into_iter-place-iterator.result in
    let more = note_more c.in-Some.place c.next.new.self false (sym c.is_note.ensures ∙ c.if-is_note.false) in
    let now = c.loop-place.invariant ∙ ap (λ l. length all + notes_at l) c.in-Some.ensures.steps in
    omega (arith, more, now)

pub returns : goal.returns
returns c =
    let h = c.fault_places-place-items.ensures in
    let all = c.into_iter-place-iterator.result in
    let is : all ≡ places_of h.1 = c.into_iter-place-iterator.ensures.into_iter_gives ∙ h.3 in
    let now = c.loop-place.invariant ∙ ap (λ l. length all + notes_at l) c.in-None.ensures.steps.0 in
    let count : c.loop-place.errors + notes_at all ≡ length all = omega (arith, now) in
    (h.0, h.1, h.2, subst (λ ps. c.loop-place.errors + notes_at ps ≡ length ps) is count)
