use Rattle.std.proofs.Common.{◌≡◌, arith, length, refl, subst}
use Rattle.x_names.specs.declared.names.Declarer.{Declarer}
use Rattle.x_recheck.specs.Editing.{definitions_after}
use Rattle.x_recheck.specs.inside.Deciding.{IsCovered, IsFirst, text_edit, is_waiting}
use Rattle.x_recheck.proofs.OutlineNames.{declared_name}
use Rattle.x_recheck.proofs.WaitingLemmas.{adds_more, adds_none, covered_more}
use Rattle.x_recheck.proofs.WalkLemmas.{each_place_all, each_place_next}
use Rattle.x_recheck.proofs.rechecking.candidates.add_candidates_of.Goals as goal

pub loop-place-init : goal.loop-place-init
loop-place-init g c = record {
  adds = adds_none c.args.queue.now 0
      (length (definitions_after (text_edit g.L.CheckedItems.text c.args.items.now)));
  covered = λ i d lt there. absurd (omega (arith, lt));
}

pub loop-place-preserved : goal.loop-place-preserved
loop-place-preserved g c =
    let e = text_edit g.L.CheckedItems.text c.args.items.now in
    let high = length (definitions_after e) in
    let item = c.args.item in
    let before = c.loop-place.queue in
    let now = c.add_candidates.new.queue in
    let step = c.in_ok-add_candidates.ensures in
    let here = subst (λ n. (f : Declarer) → IsFirst e n f → f.item ≡ item → f.place ≡ c.loop-place.place
    → IsCovered e (is_waiting now) n) c.deref.ensures.value step.covered in
    record {
      adds = adds_more c.args.queue.now before now 0 high c.loop-place.invariant.adds step.adds;
      covered = each_place_next
          (λ i d. (f : Declarer) → IsFirst e (declared_name d) f → f.item ≡ item → f.place ≡ i
          → IsCovered e (is_waiting before) (declared_name d))
          (λ i d. (f : Declarer) → IsFirst e (declared_name d) f → f.item ≡ item → f.place ≡ i
          → IsCovered e (is_waiting now) (declared_name d))
          c.args.names.now c.loop-place.place c.index-names-place.result c.loop-place-test.true
          c.index-names-place.is
          (λ i d so f first at place. covered_more e before now 0 high (declared_name d) step.adds
          (so f first at place)) c.loop-place.invariant.covered here;
    }

pub returns-clause-adds : goal.returns-clause-adds
returns-clause-adds g c = c.loop-place.invariant.adds

pub returns-clause-covered : goal.returns-clause-covered
returns-clause-covered g c name f first here named =
    let e = text_edit g.L.CheckedItems.text c.args.items.now in
    let waits = is_waiting c.loop-place.queue in
    let all = each_place_all (λ i d. (f : Declarer) → IsFirst e (declared_name d) f → f.item ≡ c.args.item
    → f.place ≡ i → IsCovered e waits (declared_name d))
    c.args.names.now c.loop-place.place c.loop-place-test.false c.loop-place.invariant.covered f.place
    named.declared named.there in
    subst (λ n. IsFirst e n f → IsCovered e waits n) named.is (λ h. all f h here refl) first
