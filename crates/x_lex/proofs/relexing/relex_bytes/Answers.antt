use Rattle.std.proofs.Common.{◌≡◌, ℕ, ◌+◌, ◌-◌, ◌<◌, ◌≤◌, true, [], ◌∷◌, ◌++◌, length, arith, sym, ap, subst}
use Rattle.std.proofs.Common.{◌∙◌, ⊎_elim}
use Rattle.std.proofs.lemmas.Bool.{cases_lt}
use Rattle.std.proofs.lemmas.List.{length_push}
use Rattle.x_text.specs.Edits.{change_of}
use Rattle.x_lex.specs.Tiling.{end_of}
use Rattle.x_lex.specs.Places.{is_line_start}
use Rattle.x_lex.specs.Relex.{old_place}
use Rattle.x_lex.proofs.SpanLemmas.{span_tiles}
use Rattle.x_lex.proofs.EndLemmas.{end_mono}
use Rattle.x_lex.proofs.LexedLemmas.{counted_none, counted_more}
use Rattle.x_lex.proofs.RelexLemmas.{boundary_reached}
use Rattle.x_lex.proofs.RelexRun.{IsEdit, Relexing}
use Rattle.x_lex.proofs.RelexEnds.{relexing_start, relexing_pushed, patch_agreed, patch_ended, patch_is}
use Rattle.x_lex.proofs.RelexEnds.{stands_behind, end_of_all, same_from_beq, differ_from_beq}
use Rattle.x_lex.proofs.relexing.relex_bytes.Goals as goal
use Rattle.x_lex.proofs.relexing.relex_bytes.Goals.{After-is_line_start-line_start, After-advance-index}
use Rattle.x_lex.proofs.relexing.relex_bytes.Goals.{
  else-shift-at-via-then-shift-at+then-end-target+else-is_line_start-line_start,
}
use Rattle.x_lex.proofs.relexing.relex_bytes.Goals.{else-shift-at-via-then-shift-at+else-end-target}
use Rattle.x_lex.proofs.relexing.relex_bytes.Goals.{else-shift-at-via-else-shift-at}

is_edit : (c : After-is_line_start-line_start)
    → IsEdit (change_of c.args.old.now c.args.edit.now) c.args.new.now
is_edit c = record { lies = c.requires.within; result = c.requires.edited }

is_edit_at : (c : After-advance-index) → IsEdit (change_of c.args.old.now c.args.edit.now) c.args.new.now
is_edit_at c = record { lies = c.requires.within; result = c.requires.edited }

-- where the old place of `at` is
abbrev place_of : (c : After-advance-index) → ℕ
place_of c = old_place (change_of c.args.old.now c.args.edit.now) c.lexing.at

target_is : (c : After-advance-index) → c.args.edit.now.end + c.saturating_sub.result
    ≡ old_place (change_of c.args.old.now c.args.edit.now) c.lexing.at
target_is c = let e = c.saturating_sub.ensures in omega (arith, e)

-- every boundary before the one that was walked to lies before the old place
below : (c : After-advance-index) → (j : ℕ) → j < c.advance-index.result.0
    → end_of c.args.tokens.now.list j < old_place (change_of c.args.old.now c.args.edit.now) c.lexing.at
below c j lt =
    ⊎_elim
    (λ less. c.lexing.invariant.below j less)
    (λ more. let b = c.advance-index.ensures.below j more lt in let e = target_is c in omega (arith, b, e))
    (cases_lt j c.lexing.back)

pub lexing-init : goal.lexing-init
lexing-init c = record {
  counted =
      let f = c.lexed-counted.type_inv in
      let e = c.lexed-counted.ensures in
      counted_none c.args.meter.now (length c.new-fresh.result.items) (ap length c.new-fresh.ensures.items)
      (omega (arith, f, e));
  relexing = relexing_start (change_of c.args.old.now c.args.edit.now) c.args.new.now (is_edit c)
      c.args.tokens.now.list c.requires.tokens c.front_before-kept.result.0 c.front_before-kept.ensures.front
      c.new-fresh.result.items c.is_line_start-line_start.result c.front_before-kept.result.1
      c.new-fresh.ensures.items c.is_line_start-line_start.ensures c.front_before-kept.ensures.place;
  forward = omega arith;
  within = c.front_before-kept.ensures.front.within;
  place_is = c.front_before-kept.ensures.place;
  below = λ j lt.
      let f = c.front_before-kept.ensures.front.before (omega arith) in
      let m = end_mono c.args.tokens.now.list j c.front_before-kept.result.0 (omega arith) in
      let o = c.requires.within.forward in
      omega (arith, f, m, o);
}

pub front_before-kept-requires : goal.front_before-kept-requires
front_before-kept-requires c = sym (span_tiles true c.args.old.now c.args.tokens.now.list c.requires.tokens)

pub new-requires : goal.new-requires
new-requires c = let w = c.lex_one-kind.ensures.within in let s = c.requires.small in omega (arith, w, s)

pub returns-then-is_line_start-line_start-clause-patch :
    goal.returns-then-is_line_start-line_start-clause-patch
returns-then-is_line_start-line_start-clause-patch c =
    let after = (goal.at.returns-then-is_line_start-line_start-clause-patch c).After-advance-index in
    patch_is (change_of c.args.old.now c.args.edit.now) c.args.tokens.now.list c.front_before-kept.result.0
    (c.advance-index.result.0 - c.front_before-kept.result.0) c.front_before-kept.result.1
    c.lexing.fresh.items c.patch.result c.patch.ensures c.front_before-kept.ensures.place
    (patch_agreed (change_of c.args.old.now c.args.edit.now) c.args.new.now (is_edit_at after)
    c.args.tokens.now.list c.requires.tokens c.front_before-kept.result.0 c.front_before-kept.ensures.front
    c.lexing.fresh.items c.lexing.line_start c.lexing.at c.lexing.invariant.relexing c.advance-index.result.0
    (omega arith) c.advance-index.ensures.within
    c.if-shift-at.true
    (sym c.advance-index.ensures.place ∙ c.if-end-target.true ∙ target_is after)
    (ap (λ p. is_line_start c.args.old.now p) (sym (target_is after)) ∙ sym c.is_line_start.ensures
    ∙ same_from_beq c.is_line_start.result c.lexing.line_start c.if-is_line_start-line_start.true)
    (below after))

pub returns-then-is_line_start-line_start-clause-behind :
    goal.returns-then-is_line_start-line_start-clause-behind
returns-then-is_line_start-line_start-clause-behind c =
    let kept = c.lexing.invariant.forward in
    let forward = c.advance-index.ensures.forward in
    let place = c.advance-index.ensures.place in
    let target = c.if-end-target.true in
    stands_behind c.args.tokens.now.list c.front_before-kept.result.0 c.advance-index.result.0
    c.front_before-kept.result.1 c.args.edit.now.end c.lexing.fresh.items c.patch.result c.patch.ensures
    (omega (arith, kept, forward)) (omega (arith, place, target))

pub returns-then-at-new-clause-behind : goal.returns-then-at-new-clause-behind
returns-then-at-new-clause-behind c =
    let count = c.len.ensures.count in
    let within = c.requires.within.within in
    let all = end_of_all c.args.old.now c.args.tokens.now.list c.requires.tokens in
    let front = c.front_before-kept.ensures.front.within in
    stands_behind c.args.tokens.now.list c.front_before-kept.result.0 c.len.result
    c.front_before-kept.result.1 c.args.edit.now.end c.lexing.fresh.items c.patch-then-at-new.result
    c.patch-then-at-new.ensures
    (omega (arith, front, count)) (subst (λ n. c.args.edit.now.end ≤ end_of c.args.tokens.now.list n)
    (sym count) (omega (arith, within, all)))

pub returns-then-at-new-clause-patch : goal.returns-then-at-new-clause-patch
returns-then-at-new-clause-patch c =
    let after = (goal.at.returns-then-at-new-clause-patch c).After-advance-index in
    patch_is (change_of c.args.old.now c.args.edit.now) c.args.tokens.now.list c.front_before-kept.result.0
    (length c.args.tokens.now.list - c.front_before-kept.result.0) c.front_before-kept.result.1
    c.lexing.fresh.items c.patch-then-at-new.result
    (c.patch-then-at-new.ensures
    ∙ λ i. record {
      at = c.front_before-kept.result.0;
      removed = c.len.ensures.count i - c.front_before-kept.result.0;
      start = c.front_before-kept.result.1;
      fresh = c.lexing.fresh.items;
    })
    c.front_before-kept.ensures.place
    (patch_ended (change_of c.args.old.now c.args.edit.now) c.args.new.now (is_edit_at after)
    c.args.tokens.now.list c.requires.tokens c.front_before-kept.result.0 c.front_before-kept.ensures.front
    c.lexing.fresh.items c.lexing.line_start
    (subst (λ p. Relexing (change_of c.args.old.now c.args.edit.now) c.args.new.now c.args.tokens.now.list
    c.front_before-kept.result.0 c.lexing.fresh.items c.lexing.line_start p) c.if-at-new.true
    c.lexing.invariant.relexing))

pub lexing-preserved : goal.lexing-preserved
lexing-preserved c =
    let after = (goal.at.lexing-preserved c).After-advance-index in
    let t = target_is after in
    record {
      counted =
          let one = ap length c.in_ok-push.ensures.items ∙ length_push c.lexing.fresh.items c.new.result in
          counted_more c.args.meter.now c.lexing.meter c.lex_one-kind.new.meter (length c.lexing.fresh.items)
          (length c.push.new.self.items) c.lexing.invariant.counted one c.lex_one-kind.ensures.meter;
      relexing = relexing_pushed (change_of c.args.old.now c.args.edit.now) c.args.new.now (is_edit_at after)
          c.args.tokens.now.list c.requires.tokens c.front_before-kept.result.0
          c.front_before-kept.ensures.front
          c.lexing.fresh.items c.push.new.self.items c.lexing.line_start c.lexing.at c.lex_one-kind.result.1
          c.lex_one-kind.result.0 c.lexing.invariant.relexing
          (λ m.
          elim c.else-shift-at.branch [
            | else-shift-at-via-then-shift-at+then-end-target+else-is_line_start-line_start w ↦
                differ_from_beq w.is_line_start.result c.lexing.line_start w.if-is_line_start-line_start.false
                (w.is_line_start.ensures ∙ ap (λ p. is_line_start c.args.old.now p) t ∙ m.starts
                ∙ sym c.lexing.invariant.relexing.bit)
            | else-shift-at-via-then-shift-at+else-end-target w ↦
                w.if-end-target.false (c.advance-index.ensures.place
                ∙ boundary_reached c.args.tokens.now.list c.advance-index.result.0 (place_of after)
                (below after) (λ lt. let r = c.advance-index.ensures.reached lt in
                let p = c.advance-index.ensures.place in omega (arith, r, p, t)) m.in_old ∙ sym t)
            | else-shift-at-via-else-shift-at w ↦ let b = m.behind in absurd (omega (arith, b))
          ])
          c.lex_one-kind.ensures.after c.lex_one-kind.ensures.within c.lex_one-kind.ensures.token
          (c.in_ok-push.ensures.items ∙ ap (λ t. c.lexing.fresh.items ++ t ∷ []) c.new.ensures);
      forward = omega arith;
      within = c.advance-index.ensures.within;
      place_is = c.advance-index.ensures.place;
      below = λ j lt. let b = below after j lt in let l = c.lex_one-kind.ensures.after in omega (arith, b, l);
    }
