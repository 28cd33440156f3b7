use Rattle.std.proofs.Common.{◌≡◌, ◌<◌, ◌≤◌, ◌+◌, ◌-◌, ◌*◌, ◌^◌, ◌∷◌, [], length, refl, sym, ap, subst, ◌∙◌}
use Rattle.std.proofs.Common.{arith, lit≤}
use Rattle.std.specs.Vec.Iter.{into_iter_items}
use Rattle.x_text.specs.declared.text.source.TheConstants.{MAX_TEXT}
use Rattle.x_recheck.specs.Staleness.{Ascending}
use Rattle.x_cutting.specs.ItemList as items
use Rattle.x_follow.specs.Following.{whole}
use Rattle.x_compile.specs.KeptView.{AreWith}
use Rattle.x_follow.specs.Moves.{changed_items, moves, splice_of}
use Rattle.x_follow.specs.inside.Carrying.{HasMoved}
use Rattle.x_follow.specs.Planned.{numbers_of, overlaid}
use Rattle.x_follow.proofs.MoveLemmas.{counted_all, counted_exactly, counted_none, counted_then, moved_none}
use Rattle.x_follow.proofs.PlacingLemmas.{ascent_rest, moved_all, moved_last, moved_next, moves_few}
use Rattle.x_follow.proofs.PlacingLemmas.{no_ascent, seat_all}
use Rattle.x_follow.proofs.PlannedLemmas.{ArePut, put_all, put_known, put_more, put_none, put_within}
use Rattle.x_follow.proofs.StaleLemmas.{nothing_left}
use Rattle.x_follow.proofs.placing.put_changes.Goals as goal

pub loop-planned-init : goal.loop-planned-init
loop-planned-init c =
    let all = c.into_iter-planned-iterator.ensures.into_iter_gives.0 in
    record {
      can = c.requires.patch;
      put = put_none (items.patched c.args.items.now.list c.args.patch) c.args.found.items
          (into_iter_items c.into_iter-planned-iterator.result) all;
      moved =
          subst (λ l. HasMoved c.args.items.now.seat
          (changed_items (splice_of c.args.patch) (numbers_of c.args.found.items)) 0 c.args.items.now.seat
          (changed_items (splice_of c.args.patch) (numbers_of l))) (sym all)
          (moved_none c.args.items.now.seat
          (changed_items (splice_of c.args.patch) (numbers_of c.args.found.items)));
      counted = counted_none c.args.items.now.moved;
      up = (0, subst (λ l. Ascending 0 (numbers_of l)) (sym all) c.requires.ascending);
      many = c.into_iter-planned-iterator.ensures.into_iter_gives.1 ∙ c.args.found.ok.0 ∙ ap length (sym all);
    }

-- what is put so far, and what comes next
next : (c : goal.After-pending-1)
    → ArePut (items.patched c.args.items.now.list c.args.patch) c.args.found.items
    (whole c.loop-planned.items.list c.loop-planned.pending)
    (c.in-Some.planned ∷ into_iter_items c.next.new.self)
next c =
    subst (ArePut (items.patched c.args.items.now.list c.args.patch) c.args.found.items
    (whole c.loop-planned.items.list c.loop-planned.pending)) c.in-Some.ensures.steps.0
    c.loop-planned.invariant.put

pub put_next-requires-clause-within : goal.put_next-requires-clause-within
put_next-requires-clause-within c =
    put_within (items.patched c.args.items.now.list c.args.patch) c.args.found.items
    (whole c.loop-planned.items.list c.loop-planned.pending) (into_iter_items c.next.new.self)
    c.in-Some.planned (next c) c.requires.planned

pub put_next-requires-clause-known : goal.put_next-requires-clause-known
put_next-requires-clause-known c =
    put_known (items.patched c.args.items.now.list c.args.patch) c.args.found.items
    (whole c.loop-planned.items.list c.loop-planned.pending) (into_iter_items c.next.new.self)
    c.in-Some.planned (next c) c.requires.planned

pub loop-planned-preserved : goal.loop-planned-preserved
loop-planned-preserved c =
    let at = c.loop-planned in
    let olds = items.patched c.args.items.now.list c.args.patch in
    let left = into_iter_items c.next.new.self in
    let p = c.in-Some.planned in
    let steps : into_iter_items at.planned-iterator ≡ p ∷ left = c.in-Some.ensures.steps.0 in
    let up = ascent_rest (into_iter_items at.planned-iterator) left p steps at.invariant.up in
    let was = at.invariant.many in
    let gone = c.in-Some.ensures.steps.1 in
    let short = ap length steps in
    record {
      can = c.put_next.ensures.pending;
      put = put_more olds c.args.found.items _ _ left p
          (subst (ArePut olds c.args.found.items _) steps at.invariant.put) c.requires.planned
          c.put_next.ensures.put;
      moved = moved_next c.args.items.now.seat at.moved at.items.seat c.put_next.new.items.seat
          c.put_next.result c.saturating_add-moved.result
          (changed_items (splice_of c.args.patch) (numbers_of c.args.found.items)) at.pending
          c.put_next.new.pending
          (into_iter_items at.planned-iterator) left p steps at.invariant.moved
          (c.put_next.ensures.moved (numbers_of left) up) c.saturating_add-moved.ensures;
      counted = counted_then c.args.items.now.moved at.items.moved c.put_next.new.items.moved at.moved
          c.put_next.result c.saturating_add-moved.result at.invariant.counted c.put_next.ensures.counted
          c.saturating_add-moved.ensures;
      up = (p.item + 1, up);
      many = omega (arith, was, gone, short);
    }

-- nothing is left
none : (c : goal.Joined-pending) → into_iter_items c.loop-planned.planned-iterator ≡ []
none c = nothing_left (into_iter_items c.loop-planned.planned-iterator)
    (sym c.loop-planned.invariant.many ∙ c.in-None.ensures.steps.0)

moved : (c : goal.Joined-pending)
    → HasMoved c.args.items.now.seat (changed_items (splice_of c.args.patch) (numbers_of c.args.found.items))
    c.saturating_add.result c.put_pending.new.items.seat []
moved c =
    let at = c.loop-planned in
    let ks = numbers_of (into_iter_items at.planned-iterator) in
    let empty : ks ≡ [] = ap numbers_of (none c) in
    moved_last c.args.items.now.seat at.moved at.items.seat c.put_pending.new.items.seat c.put_pending.result
    c.saturating_add.result (changed_items (splice_of c.args.patch) (numbers_of c.args.found.items))
    at.pending
    c.put_pending.new.pending ks empty
    c.put_pending.ensures.pending at.invariant.moved
    (c.put_pending.ensures.moved ks (no_ascent at.pending ks empty)) c.saturating_add.ensures

pub returns-clause-items : goal.returns-clause-items
returns-clause-items c =
    let olds = items.patched c.args.items.now.list c.args.patch in
    let done = put_all olds c.args.found.items (whole c.loop-planned.items.list c.loop-planned.pending)
    (into_iter_items c.loop-planned.planned-iterator) (none c) c.loop-planned.invariant.put in
    subst (AreWith olds (overlaid 0 (items.kept olds) c.args.found.items))
    (sym c.put_pending.ensures.list) done

few : (c : goal.Joined-pending) → moves c.args.items.now.seat
    (changed_items (splice_of c.args.patch) (numbers_of c.args.found.items)) ≤ 2 * (MAX_TEXT + 1)
few c =
    let seat = c.len-counted.ensures.seat in
    let count = c.len-counted.ensures.count in
    let small = c.len-counted.ensures.small in
    moves_few c.args.items.now c.args.patch c.args.found.items (MAX_TEXT + 1) c.requires.patch
    c.requires.planned c.requires.ascending (omega (arith, seat, count)) (omega (arith, small, count))

exactly : (c : goal.Joined-pending) → c.saturating_add.result
    ≡ moves c.args.items.now.seat (changed_items (splice_of c.args.patch) (numbers_of c.args.found.items))
exactly c =
    moved_all c.args.items.now.seat c.saturating_add.result c.put_pending.new.items.seat (MAX_TEXT + 1)
    (changed_items (splice_of c.args.patch) (numbers_of c.args.found.items)) [] refl
    (moved c) c.saturating_add.type_inv (few c) (omega arith)

pub returns-clause-moved : goal.returns-clause-moved
returns-clause-moved c = exactly c

pub returns-clause-few : goal.returns-clause-few
returns-clause-few c = subst (λ n. n ≤ 2 * (MAX_TEXT + 1)) (sym (exactly c)) (few c)

pub returns-clause-seat : goal.returns-clause-seat
returns-clause-seat c = seat_all c.args.items.now.seat c.saturating_add.result c.put_pending.new.items.seat
    (changed_items (splice_of c.args.patch) (numbers_of c.args.found.items)) [] refl (moved c)

pub returns-clause-counted : goal.returns-clause-counted
returns-clause-counted c =
    let at = c.loop-planned in
    let done = counted_then c.args.items.now.moved at.items.moved c.put_pending.new.items.moved at.moved
    c.put_pending.result c.saturating_add.result at.invariant.counted
    (counted_exactly at.items.moved c.put_pending.new.items.moved c.put_pending.result
    c.put_pending.ensures.counted c.put_pending.type_inv)
    c.saturating_add.ensures in
    let is = exactly c in
    let most = few c in
    let literal : 2 * (MAX_TEXT + 1) < 2 ^ 64 - 1 = lit≤ tt in
    counted_all c.args.items.now.moved c.put_pending.new.items.moved c.saturating_add.result done
    (omega (arith, is, most, literal))
