use Rattle.std.proofs.Common.{◌≡◌, ◌≤◌, ◌∷◌, ◌+◌, ◌-◌, Some, length, sym, subst, ◌∙◌, arith}
use Rattle.std.specs.Prelude.{IfSome}
use Rattle.x_cutting.specs.ItemList as items
use Rattle.x_compile.specs.Checking.{IsKnownAt}
use Rattle.x_follow.specs.Following.{CanPut, whole}
use Rattle.x_compile.specs.KeptView.{IsWithAt}
use Rattle.x_follow.specs.inside.Carrying.{HasMoved, left_changes}
use Rattle.x_follow.proofs.MoveLemmas.{counted_exactly, counted_none, counted_then}
use Rattle.x_follow.proofs.PlacingLemmas.{can_before, can_fresh, fresh_at, known_before, known_fresh}
use Rattle.x_follow.proofs.PlacingLemmas.{pending_before, pending_behind, pending_fresh, with_before}
use Rattle.x_follow.proofs.PlacingLemmas.{with_fresh}
use Rattle.x_follow.proofs.placing.put_next.Goals as goal

-- ---- before the place

pub keep_at-requires-clause-known : goal.keep_at-requires-clause-known
keep_at-requires-clause-known c =
    let p = c.in-Some.patch in
    let can : CanPut c.args.items.now p =
    subst (λ o. IfSome o (CanPut c.args.items.now)) c.in-Some.is c.requires.pending in
    let at = c.at.ensures in
    let lt = c.if-item-at.true in
    known_before c.args.items.now.list p c.args.planned.item (Some c.args.planned.found) can.among
    (omega (arith, at, lt))
    (subst (λ o. IsKnownAt (items.kept (whole c.args.items.now.list o)) c.args.planned.item
    (Some c.args.planned.found)) c.in-Some.is c.requires.known)

pub returns-then-item-at-clause-pending : goal.returns-then-item-at-clause-pending
returns-then-item-at-clause-pending c =
    can_before c.args.items.now c.keep_at.new.items c.in-Some.patch c.keep_at.ensures.counts
    c.keep_at.ensures.room (subst (λ o. IfSome o (CanPut c.args.items.now)) c.in-Some.is c.requires.pending)

pub returns-then-item-at-clause-put : goal.returns-then-item-at-clause-put
returns-then-item-at-clause-put c =
    let p = c.in-Some.patch in
    let can : CanPut c.args.items.now p =
    subst (λ o. IfSome o (CanPut c.args.items.now)) c.in-Some.is c.requires.pending in
    let at = c.at.ensures in
    let lt = c.if-item-at.true in
    subst (λ o. IsWithAt (whole c.args.items.now.list o) c.args.planned.item (Some c.args.planned.found)
    (items.patched c.keep_at.new.items.list p)) (sym c.in-Some.is)
    (with_before c.args.items.now.list c.keep_at.new.items.list p c.args.planned.item
    (Some c.args.planned.found) can.among (omega (arith, at, lt)) c.keep_at.ensures.put)

pub returns-then-item-at-clause-moved : goal.returns-then-item-at-clause-moved
returns-then-item-at-clause-moved c ks up =
    let at = c.at.ensures in
    let lt = c.if-item-at.true in
    pending_before c.args.pending.now c.in-Some.patch c.args.items.now.seat c.args.planned.item
    c.keep_at.result c.keep_at.new.items.seat ks c.in-Some.is (omega (arith, at, lt)) up
    c.keep_at.ensures.moved c.keep_at.ensures.seat c.keep_at.type_inv

pub returns-then-item-at-clause-counted : goal.returns-then-item-at-clause-counted
returns-then-item-at-clause-counted c =
    counted_exactly c.args.items.now.moved c.keep_at.new.items.moved c.keep_at.result
    c.keep_at.ensures.counted
    c.keep_at.type_inv

-- ---- among the fresh items

pub keep_fresh-requires-clause-known : goal.keep_fresh-requires-clause-known
keep_fresh-requires-clause-known c =
    let h = fresh_at c.args.items.now c.args.pending.now c.in-Some.patch c.args.planned.item c.at.result
    c.at-in-Some.result c.len.result c.in-Some.is c.requires.pending c.at.ensures c.at-in-Some.ensures
    c.if-item-at.false c.len.ensures
    c.if-index-len.true in
    known_fresh c.args.items.now.list c.in-Some.patch c.args.planned.item
    (c.args.planned.item - c.at-in-Some.result) (Some c.args.planned.found) h.can.among h.sum h.lt
    (subst (λ o. IsKnownAt (items.kept (whole c.args.items.now.list o)) c.args.planned.item
    (Some c.args.planned.found)) c.in-Some.is c.requires.known)

pub returns-then-index-len-clause-pending : goal.returns-then-index-len-clause-pending
returns-then-index-len-clause-pending c =
    can_fresh c.args.items.now c.in-Some.patch c.keep_fresh.new.patch c.keep_fresh.ensures.counts
    c.keep_fresh.ensures.others
    (subst (λ o. IfSome o (CanPut c.args.items.now)) c.in-Some.is c.requires.pending)

pub returns-then-index-len-clause-put : goal.returns-then-index-len-clause-put
returns-then-index-len-clause-put c =
    let h = fresh_at c.args.items.now c.args.pending.now c.in-Some.patch c.args.planned.item c.at.result
    c.at-in-Some.result c.len.result c.in-Some.is c.requires.pending c.at.ensures c.at-in-Some.ensures
    c.if-item-at.false c.len.ensures
    c.if-index-len.true in
    subst (λ o. IsWithAt (whole c.args.items.now.list o) c.args.planned.item (Some c.args.planned.found)
    (items.patched c.args.items.now.list c.keep_fresh.new.patch)) (sym c.in-Some.is)
    (with_fresh c.args.items.now.list c.in-Some.patch c.keep_fresh.new.patch c.args.planned.item
    (c.args.planned.item - c.at-in-Some.result) (Some c.args.planned.found) h.can.among h.sum h.lt
    c.keep_fresh.ensures.put c.keep_fresh.ensures.others)

pub returns-then-index-len-clause-moved : goal.returns-then-index-len-clause-moved
returns-then-index-len-clause-moved c ks up =
    let h = fresh_at c.args.items.now c.args.pending.now c.in-Some.patch c.args.planned.item c.at.result
    c.at-in-Some.result c.len.result c.in-Some.is c.requires.pending c.at.ensures c.at-in-Some.ensures
    c.if-item-at.false c.len.ensures
    c.if-index-len.true in
    let sum = h.sum in
    let lt = h.lt in
    pending_fresh c.args.pending.now c.in-Some.patch c.keep_fresh.new.patch c.args.items.now.seat
    c.args.planned.item ks c.in-Some.is h.le (omega (arith, sum, lt)) c.keep_fresh.ensures.counts
    c.keep_fresh.ensures.others

pub returns-then-index-len-clause-counted : goal.returns-then-index-len-clause-counted
returns-then-index-len-clause-counted c = counted_none c.args.items.now.moved

-- ---- behind the place

same : (c : goal.After-saturating_add) → c.match-pending.pending ≡ c.args.pending.now
same c =
    elim c.match-pending.branch [
      | goal.in-Some+else-item-at+else-index-len w ↦ w.pending-is ∙ sym w.in-Some.is
      | goal.in_default w ↦ w.pending-is
    ]

behind : (c : goal.After-saturating_add)
    → IfSome c.match-pending.pending (λ q. q.at + length q.fresh ≤ c.args.planned.item)
behind c =
    elim c.match-pending.branch [
      | goal.in-Some+else-item-at+else-index-len w ↦
          let a = w.at.ensures in
          let b = w.at-in-Some.ensures in
          let n = w.len.ensures in
          let le = w.if-item-at.false in
          let far = w.if-index-len.false in
          let there : w.in-Some.patch.at + length w.in-Some.patch.fresh ≤ c.args.planned.item =
          omega (arith, a, b, n, le, far) in
          subst (λ o. IfSome o (λ q. q.at + length q.fresh ≤ c.args.planned.item)) (sym w.pending-is) there
      | goal.in_default w ↦ subst (λ o. IfSome o (λ q. q.at + length q.fresh ≤ c.args.planned.item))
          (sym (w.pending-is ∙ w.in_default.is)) tt
    ]

pub returns-clause-moved : goal.returns-clause-moved
returns-clause-moved c ks up =
    subst (λ o. HasMoved c.args.items.now.seat (left_changes o (c.args.planned.item ∷ ks))
    c.saturating_add.result c.keep_at-2.new.items.seat (left_changes c.put_pending-moved.new.pending ks))
    (same c)
    (pending_behind c.match-pending.pending c.put_pending-moved.new.pending c.args.items.now.seat
    c.put_pending-moved.new.items.seat c.args.planned.item c.put_pending-moved.result c.keep_at-2.result
    c.saturating_add.result
    c.keep_at-2.new.items.seat ks c.put_pending-moved.ensures.pending c.put_pending-moved.ensures.moved
    (behind c) up c.keep_at-2.ensures.moved c.keep_at-2.ensures.seat c.keep_at-2.type_inv
    c.saturating_add.ensures)

pub returns-clause-counted : goal.returns-clause-counted
returns-clause-counted c =
    counted_then c.args.items.now.moved c.put_pending-moved.new.items.moved c.keep_at-2.new.items.moved
    c.put_pending-moved.result c.keep_at-2.result c.saturating_add.result
    (counted_exactly c.args.items.now.moved c.put_pending-moved.new.items.moved c.put_pending-moved.result
    c.put_pending-moved.ensures.counted c.put_pending-moved.type_inv)
    (counted_exactly c.put_pending-moved.new.items.moved c.keep_at-2.new.items.moved c.keep_at-2.result
    c.keep_at-2.ensures.counted c.keep_at-2.type_inv)
    c.saturating_add.ensures
