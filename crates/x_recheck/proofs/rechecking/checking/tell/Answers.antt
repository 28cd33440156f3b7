use Rattle.std.proofs.Common.{◌+◌, arith, length, subst}
use Rattle.x_recheck.specs.Editing.{definitions_after}
use Rattle.x_recheck.specs.inside.Deciding.{IsWaitedFor, text_edit, is_waiting}
use Rattle.x_recheck.proofs.OutlineNames.{declared_name}
use Rattle.x_recheck.proofs.WaitingLemmas.{adds_more, adds_none, told_more}
use Rattle.x_recheck.proofs.WalkLemmas.{each_place_all, each_place_next}
use Rattle.x_recheck.proofs.rechecking.checking.tell.Goals as goal

pub loop-place-init : goal.loop-place-init
loop-place-init g c = record {
  adds = adds_none c.args.queue.now (c.args.item + 1)
      (length (definitions_after (text_edit g.L.CheckedItems.text c.args.items.now)));
  told = λ i d lt there. absurd (omega (arith, lt));
}

pub loop-place-preserved : goal.loop-place-preserved
loop-place-preserved g c =
    let e = text_edit g.L.CheckedItems.text c.args.items.now in
    let high = length (definitions_after e) in
    let item = c.args.item in
    let checked = c.args.checked.now in
    let before = c.loop-place.queue in
    let now = c.tell_name.new.queue in
    let step = c.in_ok-tell_name.ensures in
    record {
      adds = adds_more c.args.queue.now before now (item + 1) high c.loop-place.invariant.adds step.adds;
      told = each_place_next (λ i d. IsWaitedFor e item i checked (is_waiting before) (declared_name d))
          (λ i d. IsWaitedFor e item i checked (is_waiting now) (declared_name d))
          c.args.names.now c.loop-place.place c.index-names-place.result c.loop-place-test.true
          c.index-names-place.is
          (λ i d so. told_more e item i checked before now (item + 1) high (declared_name d) step.adds so)
          c.loop-place.invariant.told
          (subst (IsWaitedFor e item c.loop-place.place checked (is_waiting now))
          c.deref.ensures.value step.told);
    }

pub returns-clause-adds : goal.returns-clause-adds
returns-clause-adds g c = c.loop-place.invariant.adds

pub returns-clause-told : goal.returns-clause-told
returns-clause-told g c name place named =
    let e = text_edit g.L.CheckedItems.text c.args.items.now in
    let waits = is_waiting c.loop-place.queue in
    subst (IsWaitedFor e c.args.item place c.args.checked.now waits) named.is
    (each_place_all (λ i d. IsWaitedFor e c.args.item i c.args.checked.now waits (declared_name d))
    c.args.names.now c.loop-place.place c.loop-place-test.false c.loop-place.invariant.told
    place named.declared named.there)
