use Rattle.std.proofs.Common.{◌<◌, ◌+◌, length, sym, ◌∙◌, arith}
use Rattle.std.proofs.lemmas.Bool.{true≢false}
use Rattle.x_follow.proofs.PlacingLemmas.{pending_nothing, pending_place, some_fresh}
use Rattle.x_follow.proofs.placing.put_pending.Goals as goal
use Rattle.x_follow.proofs.placing.put_pending.Goals.{else-removed-eq0-via-then-removed-eq0+else-is_empty}
use Rattle.x_follow.proofs.placing.put_pending.Goals.{else-removed-eq0-via-else-removed-eq0}

pub returns-then-is_empty-clause-moved : goal.returns-then-is_empty-clause-moved
returns-then-is_empty-clause-moved c ks up =
    pending_nothing c.args.pending.now c.take.new.self c.in-Some.patch c.args.items.now.seat ks
    (sym c.take.ensures.value ∙ c.in-Some.is) c.take.ensures.after
    (sym c.removed.ensures ∙ c.if-removed-eq0.true)
    (c.is_empty.ensures.0 c.if-is_empty.true) up

-- something goes or comes
some : (c : goal.After-put) → 0 < c.in-Some.patch.removed + length c.in-Some.patch.fresh
some c =
    elim c.else-removed-eq0.branch [
      | else-removed-eq0-via-then-removed-eq0+else-is_empty w ↦
          let some = some_fresh c.in-Some.patch.fresh
          (λ none. true≢false (sym (w.is_empty.ensures.1 none) ∙ w.if-is_empty.false)) in
          omega (arith, some)
      | else-removed-eq0-via-else-removed-eq0 w ↦
          let is = c.removed.ensures in
          let some = w.if-removed-eq0.false in
          omega (arith, is, some)
    ]

pub returns-clause-moved : goal.returns-clause-moved
returns-clause-moved c ks up =
    pending_place c.args.pending.now c.take.new.self c.in-Some.patch c.args.items.now.seat c.put.result
    c.put.new.self.seat ks (sym c.take.ensures.value ∙ c.in-Some.is) c.take.ensures.after
    (some c) c.put.ensures.moved c.put.ensures.seat
    c.put.type_inv up
