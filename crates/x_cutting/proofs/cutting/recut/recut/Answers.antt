use Rattle.std.proofs.Common.{◌≡◌, ◌+◌, ◌-◌, ◌≤◌, length, sym, ap, subst, ◌∙◌, arith}
use Rattle.std.specs.Prelude.{All, ◌↔◌}
use Rattle.std.proofs.lemmas.List.Elements.{All-push}
use Rattle.x_text.specs.Edits.{Change}
use Rattle.x_cutting.specs.declared.cutting.item_entry.ItemEntry.{ItemEntry}
use Rattle.x_cutting.specs.ItemList.{counts, tokens_before}
use Rattle.x_cutting.specs.Recut.{IsRelexed}
use Rattle.x_cutting.proofs.RecutRun.{Moved, moved_not, moved_on, not_both_zero}
use Rattle.x_cutting.proofs.RecutEnds.{ready, relexed_as, token_count, few_tokens, fresh_within, gone_within}
use Rattle.x_cutting.proofs.RecutEnds.{index_within, back_within, back_is, state_none, place_start, reached}
use Rattle.x_cutting.proofs.RecutEnds.{counted_within, state_more, more_some, made_joined, made_ended}
use Rattle.x_cutting.proofs.cutting.recut.recut.Goals as goal
use Rattle.x_cutting.proofs.cutting.recut.recut.Goals.{then-behind-index+else-back_index-target}
use Rattle.x_cutting.proofs.cutting.recut.recut.Goals.{
  else-back_index-target-via-then-back_index-target+else-index-target,
}
use Rattle.x_cutting.proofs.cutting.recut.recut.Goals.{else-back_index-target-via-else-back_index-target}
use Rattle.x_cutting.proofs.cutting.recut.recut.Goals.{else-behind-index}

pub whole_within-kept-requires : goal.whole_within-kept-requires
whole_within-kept-requires g c =
    let known = c.requires in
    let rel = relexed_as known.change c.bytes-text.result.now c.args.new.now c.args.tokens.now.list
    c.args.items.now.list c.args.patch.now c.bytes-text.ensures.text known.relexed in
    c.len.ensures.count
    ∙ sym (token_count known.change c.bytes-text.result.now c.args.tokens.now.list c.args.items.now.list
    c.args.patch.now rel)

pub overflow_add-behind : goal.overflow_add-behind
overflow_add-behind g c =
    let text = c.bytes-text.result.now in
    let ts = c.args.tokens.now.list in
    let items = c.args.items.now.list in
    let patch = c.args.patch.now in
    let k = c.whole_within-kept.result.0 in
    let start = c.whole_within-kept.result.1 in
    let known = ready c.requires.change c.bytes-text.result.now c.args.new.now ts items patch k start
    c.at.result c.bytes-text.ensures.text c.bytes-text.ensures.small c.requires.relexed
    c.at.ensures c.whole_within-kept.ensures.within c.whole_within-kept.ensures.tokens
    c.whole_within-kept.ensures.before c.whole_within-kept.ensures.next in
    let within = fresh_within c.requires.change text ts items patch k start known in
    let few = few_tokens c.requires.change text ts items patch k start known in
    let x = c.at-2.ensures in
    let f = c.len-2.ensures in
    omega (arith, within, few, x, f)

pub cutting-init : goal.cutting-init
cutting-init g c =
    let text = c.bytes-text.result.now in
    let ts = c.args.tokens.now.list in
    let items = c.args.items.now.list in
    let patch = c.args.patch.now in
    let k = c.whole_within-kept.result.0 in
    let start = c.whole_within-kept.result.1 in
    let known = ready c.requires.change c.bytes-text.result.now c.args.new.now ts items patch k start
    c.at.result c.bytes-text.ensures.text c.bytes-text.ensures.small c.requires.relexed
    c.at.ensures c.whole_within-kept.ensures.within c.whole_within-kept.ensures.tokens
    c.whole_within-kept.ensures.before c.whole_within-kept.ensures.next in
    let none = c.new-fresh.ensures.items in
    record {
      known = λ change rel. ready change text c.args.new.now ts items patch k start c.at.result
          c.bytes-text.ensures.text c.bytes-text.ensures.small rel c.at.ensures
          c.whole_within-kept.ensures.within c.whole_within-kept.ensures.tokens
          c.whole_within-kept.ensures.before c.whole_within-kept.ensures.next;
      recutting = state_none c.requires.change text ts items patch k start known
          c.new-fresh.result.items none;
      place_is = place_start c.requires.change text ts items patch k start known c.place_before-place.result
          c.place_before-place.ensures;
      blank = λ i d lt. let l = ap length none in absurd (omega (arith, lt, l));
    }

pub overflow_add-target : goal.overflow_add-target
overflow_add-target g c =
    let known = c.cutting.invariant.known c.requires.change c.requires.relexed in
    let within = index_within _ _ _ _ _ _ _ known c.cutting.fresh.items c.cutting.index c.cutting.back
    c.cutting.back_index c.cutting.invariant.recutting in
    let few = few_tokens _ _ _ _ _ _ _ known in
    let gone = gone_within _ _ _ _ _ _ _ known in
    let all = c.len.ensures.count in
    let small = c.len.ensures.small in
    let y = c.at-3.ensures in
    let m = c.removed.ensures in
    omega (arith, within, few, gone, all, small, y, m)

pub advance-requires-clause-within : goal.advance-requires-clause-within
advance-requires-clause-within g c =
    let known = c.cutting.invariant.known c.requires.change c.requires.relexed in
    back_within _ _ _ _ _ _ _ known c.cutting.fresh.items c.cutting.index c.cutting.back c.cutting.back_index
    c.cutting.invariant.recutting

pub advance-requires-clause-tokens : goal.advance-requires-clause-tokens
advance-requires-clause-tokens g c =
    let known = c.cutting.invariant.known c.requires.change c.requires.relexed in
    back_is _ _ _ _ _ _ _ known c.cutting.fresh.items c.cutting.index c.cutting.back c.cutting.back_index
    c.cutting.invariant.recutting

pub overflow_sub-back : goal.overflow_sub-back
overflow_sub-back g c =
    let b = c.cutting.invariant.recutting.back_from in
    let f = c.advance.ensures.forward in
    omega (arith, b, f)

pub returns-then-index-target : goal.returns-then-index-target
returns-then-index-target g c =
    let made = λ (change : Change) (rel : IsRelexed change c.args.new.now c.args.tokens.now.list
    (counts c.args.items.now.list) c.args.patch.now).
    let known = c.cutting.invariant.known change rel in
    let target : c.at-3.result + c.removed.result + (c.cutting.index - (c.at-2.result + c.len-2.result))
    ≡ c.args.patch.now.at + c.args.patch.now.removed
    + (c.cutting.index - (c.args.patch.now.at + length c.args.patch.now.fresh)) =
    let x = c.at-2.ensures in let f = c.len-2.ensures in let y = c.at-3.ensures in
    let m = c.removed.ensures in omega (arith, x, f, y, m) in
    made_joined _ _ _ _ _ _ _ known c.new.result c.cutting.fresh.items c.cutting.index c.cutting.back
    c.cutting.back_index c.advance.result.0 c.advance.result.1
    (c.at-3.result + c.removed.result + (c.cutting.index - (c.at-2.result + c.len-2.result)))
    c.cutting.invariant.recutting
    c.advance.ensures.forward c.advance.ensures.within c.advance.ensures.tokens
    (let far = c.if-behind-index.true in let x = c.at-2.ensures in let f = c.len-2.ensures in
    omega (arith, far, x, f))
    target c.if-back_index-target.true c.if-index-target.true c.new.ensures in
    let one = made c.requires.change c.requires.relexed in
    record {
      patch = λ change rel. (made change rel).patch_is;
      among = one.patch_is.among;
      front = let start = ap (λ p. p.start) c.new.ensures in
          let before = c.whole_within-kept.ensures.before in let x = c.at.ensures in
          omega (arith, start, before, x);
      rear = λ _.
          let end = ap (λ p. p.at + p.removed) c.new.ensures in
          let from = c.cutting.invariant.recutting.back_from in
          let forth = c.advance.ensures.forward in
          let back : c.new.result.at + c.new.result.removed ≡ c.advance.result.0 =
          omega (arith, end, from, forth) in
          let tokens = c.advance.ensures.tokens in
          let target = c.if-back_index-target.true in
          let y = c.at-3.ensures in
          let m = c.removed.ensures in
          subst (λ i. c.args.patch.now.at + c.args.patch.now.removed
          ≤ tokens_before (counts c.args.items.now.list) i) (sym back) (omega (arith, tokens, target, y, m));
      of_text = one.fits;
      blank =
          let fresh = ap (λ p. p.fresh) c.new.ensures in
          subst (λ l. All (λ (item : ItemEntry g.row.K.Denot). g.K.Default.is_default item.kept) l)
          (sym fresh) c.cutting.invariant.blank;
    }

pub item_from-count-requires-clause-within : goal.item_from-count-requires-clause-within
item_from-count-requires-clause-within g c =
    let known = c.cutting.invariant.known c.requires.change c.requires.relexed in
    index_within _ _ _ _ _ _ _ known c.cutting.fresh.items c.cutting.index c.cutting.back c.cutting.back_index
    c.cutting.invariant.recutting

pub item_from-count-requires-clause-place : goal.item_from-count-requires-clause-place
item_from-count-requires-clause-place g c =
    c.cutting.invariant.place_is

pub new-requires-in-cutting : goal.new-requires-in-cutting
new-requires-in-cutting g c =
    let known = c.cutting.invariant.known c.requires.change c.requires.relexed in
    let few = few_tokens _ _ _ _ _ _ _ known in
    let w = c.item_from-count.ensures.within in
    omega (arith, few, w)

pub returns-then-not-whole : goal.returns-then-not-whole
returns-then-not-whole g c =
    let made = λ (change : Change) (rel : IsRelexed change c.args.new.now c.args.tokens.now.list
    (counts c.args.items.now.list) c.args.patch.now).
    let known = c.cutting.invariant.known change rel in
    let target : c.at-3.result + c.removed.result + (c.cutting.index - (c.at-2.result + c.len-2.result))
    ≡ c.args.patch.now.at + c.args.patch.now.removed
    + (c.cutting.index - (c.args.patch.now.at + length c.args.patch.now.fresh)) =
    let x = c.at-2.ensures in let f = c.len-2.ensures in let y = c.at-3.ensures in
    let m = c.removed.ensures in omega (arith, x, f, y, m) in
    let moved : Moved (counts c.args.items.now.list) c.args.patch.now.at (length c.args.patch.now.fresh)
    c.args.patch.now.removed c.cutting.index c.cutting.back c.if-behind-index.back
    c.if-behind-index.back_index =
    elim c.if-behind-index.branch [
      | then-behind-index+else-back_index-target w ↦
          let there = reached _ _ _ _ _ _ _ known c.cutting.fresh.items c.cutting.index c.cutting.back
          c.cutting.back_index w.advance.result.0 w.advance.result.1
          (c.at-3.result + c.removed.result + (c.cutting.index - (c.at-2.result + c.len-2.result)))
          c.cutting.invariant.recutting
          target w.advance.ensures.within w.advance.ensures.tokens w.advance.ensures.below
          w.advance.ensures.reached in
          moved_on (counts c.args.items.now.list) c.args.patch.now.at (length c.args.patch.now.fresh)
          c.args.patch.now.removed c.cutting.index c.cutting.back c.if-behind-index.back
          c.if-behind-index.back_index w.advance.result.0 w.advance.result.1 there w.advance.ensures.forward
          (counted_within _ _ _ _ _ _ _ known w.advance.result.0 w.advance.ensures.within)
          w.advance.ensures.tokens w.back-is w.back_index-is
          (λ joins.
          elim w.else-back_index-target.branch [
            | else-back_index-target-via-then-back_index-target+else-index-target v ↦
                not_both_zero c.cutting.index
                (c.at-3.result + c.removed.result + (c.cutting.index - (c.at-2.result + c.len-2.result)))
                v.if-index-target.false (subst (λ n. (c.cutting.index ≡ 0) ↔ (n ≡ 0)) (sym target) joins.both)
            | else-back_index-target-via-else-back_index-target v ↦ v.if-back_index-target.false
                (there.found joins ∙ sym target)
          ])
      | else-behind-index w ↦
          moved_not (counts c.args.items.now.list) _ c.args.patch.now.at (length c.args.patch.now.fresh)
          c.args.patch.now.removed _ _ (counts c.cutting.fresh.items) c.cutting.index c.cutting.back
          c.cutting.back_index c.if-behind-index.back c.if-behind-index.back_index
          c.cutting.invariant.recutting
          (let near = w.if-behind-index.false in let x = c.at-2.ensures in let f = c.len-2.ensures in
          omega (arith, near, x, f)) w.back-is w.back_index-is
    ] in
    made_ended _ _ _ _ _ _ _ known c.new-then-not-whole.result c.cutting.fresh.items c.push.new.self.items
    c.new-in-cutting.result c.cutting.index c.item_from-count.result.0 c.cutting.back c.cutting.back_index
    c.if-behind-index.back c.if-behind-index.back_index c.len-then-not-whole.result c.item_from-count.result.2
    c.cutting.invariant.recutting moved c.item_from-count.ensures.counts c.if-not-whole.true
    c.in_ok-push.ensures.items c.new-in-cutting.ensures.tokens c.len-then-not-whole.ensures.count
    c.new-then-not-whole.ensures in
    let one = made c.requires.change c.requires.relexed in
    record {
      patch = λ change rel. (made change rel).patch_is;
      among = one.patch_is.among;
      front = let start = ap (λ p. p.start) c.new-then-not-whole.ensures in
          let before = c.whole_within-kept.ensures.before in let x = c.at.ensures in
          omega (arith, start, before, x);
      rear = λ more.
          let end = ap (λ p. p.at + p.removed) c.new-then-not-whole.ensures in
          let all = c.len-then-not-whole.ensures.count in
          let within = c.whole_within-kept.ensures.within in
          absurd (omega (arith, more, end, all, within));
      of_text = one.fits;
      blank =
          let fresh = ap (λ p. p.fresh) c.new-then-not-whole.ensures in
          subst (λ l. All (λ (item : ItemEntry g.row.K.Denot). g.K.Default.is_default item.kept) l)
          (sym c.in_ok-push.ensures.items ∙ sym fresh)
          (All-push (λ (item : ItemEntry g.row.K.Denot). g.K.Default.is_default item.kept)
          c.cutting.fresh.items c.new-in-cutting.result c.cutting.invariant.blank
          c.new-in-cutting.ensures.blank);
    }

pub overflow_add-index : goal.overflow_add-index
overflow_add-index g c =
    let known = c.cutting.invariant.known c.requires.change c.requires.relexed in
    let few = few_tokens _ _ _ _ _ _ _ known in
    let w = c.item_from-count.ensures.within in
    omega (arith, few, w)

pub cutting-smaller : goal.cutting-smaller
cutting-smaller g c =
    let known = c.cutting.invariant.known c.requires.change c.requires.relexed in
    let some = more_some _ _ _ _ _ _ _ known c.cutting.index c.item_from-count.result.0
    c.item_from-count.result.2 c.item_from-count.ensures.counts c.if-not-whole.false in
    let w = c.item_from-count.ensures.within in
    omega (arith, some, w)

pub cutting-preserved : goal.cutting-preserved
cutting-preserved g c =
    let known = c.cutting.invariant.known c.requires.change c.requires.relexed in
    let target : c.at-3.result + c.removed.result + (c.cutting.index - (c.at-2.result + c.len-2.result))
    ≡ c.args.patch.now.at + c.args.patch.now.removed
    + (c.cutting.index - (c.args.patch.now.at + length c.args.patch.now.fresh)) =
    let x = c.at-2.ensures in let f = c.len-2.ensures in let y = c.at-3.ensures in
    let m = c.removed.ensures in omega (arith, x, f, y, m) in
    let moved : Moved (counts c.args.items.now.list) c.args.patch.now.at (length c.args.patch.now.fresh)
    c.args.patch.now.removed c.cutting.index c.cutting.back c.if-behind-index.back
    c.if-behind-index.back_index =
    elim c.if-behind-index.branch [
      | then-behind-index+else-back_index-target w ↦
          let there = reached _ _ _ _ _ _ _ known c.cutting.fresh.items c.cutting.index c.cutting.back
          c.cutting.back_index w.advance.result.0 w.advance.result.1
          (c.at-3.result + c.removed.result + (c.cutting.index - (c.at-2.result + c.len-2.result)))
          c.cutting.invariant.recutting
          target w.advance.ensures.within w.advance.ensures.tokens w.advance.ensures.below
          w.advance.ensures.reached in
          moved_on (counts c.args.items.now.list) c.args.patch.now.at (length c.args.patch.now.fresh)
          c.args.patch.now.removed c.cutting.index c.cutting.back c.if-behind-index.back
          c.if-behind-index.back_index w.advance.result.0 w.advance.result.1 there w.advance.ensures.forward
          (counted_within _ _ _ _ _ _ _ known w.advance.result.0 w.advance.ensures.within)
          w.advance.ensures.tokens w.back-is w.back_index-is
          (λ joins.
          elim w.else-back_index-target.branch [
            | else-back_index-target-via-then-back_index-target+else-index-target v ↦
                not_both_zero c.cutting.index
                (c.at-3.result + c.removed.result + (c.cutting.index - (c.at-2.result + c.len-2.result)))
                v.if-index-target.false (subst (λ n. (c.cutting.index ≡ 0) ↔ (n ≡ 0)) (sym target) joins.both)
            | else-back_index-target-via-else-back_index-target v ↦ v.if-back_index-target.false
                (there.found joins ∙ sym target)
          ])
      | else-behind-index w ↦
          moved_not (counts c.args.items.now.list) _ c.args.patch.now.at (length c.args.patch.now.fresh)
          c.args.patch.now.removed _ _ (counts c.cutting.fresh.items) c.cutting.index c.cutting.back
          c.cutting.back_index c.if-behind-index.back c.if-behind-index.back_index
          c.cutting.invariant.recutting
          (let near = w.if-behind-index.false in let x = c.at-2.ensures in let f = c.len-2.ensures in
          omega (arith, near, x, f)) w.back-is w.back_index-is
    ] in
    record {
      known = c.cutting.invariant.known;
      recutting = state_more _ _ _ _ _ _ _ known c.cutting.fresh.items c.push.new.self.items
          c.new-in-cutting.result c.cutting.index c.item_from-count.result.0 c.cutting.back
          c.cutting.back_index c.if-behind-index.back c.if-behind-index.back_index c.item_from-count.result.2
          c.cutting.invariant.recutting moved c.item_from-count.ensures.within
          c.item_from-count.ensures.counts c.if-not-whole.false c.in_ok-push.ensures.items
          c.new-in-cutting.ensures.tokens;
      place_is = c.item_from-count.ensures.place;
      blank = subst (λ l. All (λ (item : ItemEntry g.row.K.Denot). g.K.Default.is_default item.kept) l)
          (sym c.in_ok-push.ensures.items)
          (All-push (λ (item : ItemEntry g.row.K.Denot). g.K.Default.is_default item.kept)
          c.cutting.fresh.items c.new-in-cutting.result c.cutting.invariant.blank
          c.new-in-cutting.ensures.blank);
    }
