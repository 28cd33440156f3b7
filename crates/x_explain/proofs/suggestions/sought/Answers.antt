use Rattle.std.proofs.Common.{[], ap, ◌∙◌, arith, refl}
use Rattle.x_explain.specs.Suggestions.{sought}
use Rattle.x_explain.proofs.SuggestionLemmas.{all_taken, known_passed, one_passed, unknown_in}
use Rattle.x_explain.proofs.suggestions.sought.Goals as goal

pub loop-place-preserved : goal.loop-place-preserved
loop-place-preserved c =
    let places = c.loop-place.places.items in
    let left = c.loop-place.place-iterator in
    let rest = c.next.new.self in
    let all = sought c.into_iter-place-iterator.result in
    let so = c.loop-place.invariant in (
      so.0,
      known_passed places c.in-Some.place left rest all c.is_unknown.result c.in-Some.ensures.steps
          c.is_unknown.ensures c.if-is_unknown.false so.1,
    )

pub returns : goal.returns
returns c =
    let h = c.fault_places-place-items.ensures in
    let places = c.loop-place.places.items in
    let so = c.loop-place.invariant in
    let is = all_taken 16 places (unknown_in c.loop-place.place-iterator)
    (sought c.into_iter-place-iterator.result) (ap unknown_in c.in-None.ensures.steps.0) so.0 so.1 in
    (h.0, h.1, h.2, is ∙ ap sought (c.into_iter-place-iterator.ensures.into_iter_gives ∙ h.3))

pub returns-then-len-ge-MOST_WORDS : goal.returns-then-len-ge-MOST_WORDS
returns-then-len-ge-MOST_WORDS c =
    let h = c.fault_places-place-items.ensures in
    let places = c.loop-place.places.items in
    let all = sought c.into_iter-place-iterator.result in
    let so = c.loop-place.invariant in
    let full = c.if-len-ge-MOST_WORDS.true in
    let many = c.len.ensures in
    let none = one_passed 16 places (unknown_in c.loop-place.place-iterator) [] all
    (omega (arith, full, many)) so.1 in
    let is = all_taken 16 places [] all refl so.0 none in
    (h.0, h.1, h.2, is ∙ ap sought (c.into_iter-place-iterator.ensures.into_iter_gives ∙ h.3))
