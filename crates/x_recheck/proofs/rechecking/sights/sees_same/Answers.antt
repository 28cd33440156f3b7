use Rattle.std.proofs.Common.{◌≡◌, get_or, true, sym, subst, ◌∙◌}
use Rattle.std.proofs.lemmas.Bool.{true≢false}
use Rattle.std.specs.List.{IsAmong}
use Rattle.x_trees.specs.declared.names.declared_name.DeclaredName.{DeclaredName}
use Rattle.x_trees.specs.declared.names.mention.Mention.{Mention}
use Rattle.x_trees.proofs.AmongLemmas.{among_none}
use Rattle.x_recheck.specs.inside.Deciding.{SeesSame, text_edit}
use Rattle.x_recheck.specs.Staleness.{result_after}
use Rattle.x_recheck.proofs.OutlineNames.{declared_name, mentioned_name, no_mention, declared_among}
use Rattle.x_recheck.proofs.OutlineNames.{mention_among, outline_each}
use Rattle.x_recheck.proofs.WalkLemmas.{each_next, each_all, read_at}
use Rattle.x_recheck.proofs.rechecking.sights.sees_same.Goals as goal

pub returns-then-not-sees_name_same-clause-other : goal.returns-then-not-sees_name_same-clause-other
returns-then-not-sees_name_same-clause-other g c f o =
    let e = text_edit g.L.CheckedItems.text c.args.items.now in
    let d = c.declared-item.result in
    let there : IsAmong c.declared-declared-items.result.now d =
    (c.loop-declared.declared-index, (c.loop-declared-test.true, c.declared-item.is)) in
    let among = subst (λ l. IsAmong l d) c.declared-declared-items.ensures there in
    let seen = subst (λ n. SeesSame e (result_after e c.args.rechecked.now) c.args.was c.args.item n
    → c.sees_name_same.result ≡ true) c.deref.ensures.value c.sees_name_same.ensures.1 in (
      declared_name d,
      declared_among c.args.outline.now d o among,
      λ same. true≢false (sym (seen same) ∙ c.if-not-sees_name_same.true),
    )

pub loop-declared-preserved : goal.loop-declared-preserved
loop-declared-preserved g c =
    let e = text_edit g.L.CheckedItems.text c.args.items.now in
    let P : DeclaredName → Type 0 =
    λ d. SeesSame e (result_after e c.args.rechecked.now) c.args.was c.args.item (declared_name d) in
    let here = subst (λ n. SeesSame e (result_after e c.args.rechecked.now) c.args.was c.args.item n)
    c.deref.ensures.value (c.sees_name_same.ensures.0 c.if-not-sees_name_same.false) in
    each_next P P c.declared-declared-items.result.now c.loop-declared.declared-index c.declared-item.result
    c.loop-declared-test.true c.declared-item.is (λ y p. p) c.loop-declared.invariant here

pub loop-mention-init : goal.loop-mention-init
loop-mention-init g c =
    let e = text_edit g.L.CheckedItems.text c.args.items.now in
    let P : DeclaredName → Type 0 =
    λ d. SeesSame e (result_after e c.args.rechecked.now) c.args.was c.args.item (declared_name d) in
    let all = each_all P c.declared-declared-items.result.now c.loop-declared.declared-index
    c.loop-declared-test.false c.loop-declared.invariant in
    record {
      declared = subst (λ l. (d : DeclaredName) → IsAmong l d → P d) c.declared-declared-items.ensures all;
      mentioned = λ m h. absurd (among_none m h);
    }

pub returns-then-not-sees_name_same-2-clause-other : goal.returns-then-not-sees_name_same-2-clause-other
returns-then-not-sees_name_same-2-clause-other g c f o =
    let mentions = c.mentioned-mention-items.result.now in
    let index = c.loop-mention.mention-index in
    let m = get_or mentions index no_mention in
    let there : IsAmong mentions m =
    (index, (c.loop-mention-test.true, read_at mentions index no_mention c.loop-mention-test.true)) in
    let among = subst (λ l. IsAmong l m) c.mentioned-mention-items.ensures there in (
      mentioned_name m,
      mention_among c.args.outline.now m o among,
      λ same. true≢false (sym (c.sees_name_same-in-loop-mention.ensures.1 same)
          ∙ c.if-not-sees_name_same-2.true),
    )

pub loop-mention-preserved : goal.loop-mention-preserved
loop-mention-preserved g c =
    let e = text_edit g.L.CheckedItems.text c.args.items.now in
    let P : Mention → Type 0 =
    λ m. SeesSame e (result_after e c.args.rechecked.now) c.args.was c.args.item (mentioned_name m) in
    let mentions = c.mentioned-mention-items.result.now in
    let index = c.loop-mention.mention-index in
    record {
      declared = c.loop-mention.invariant.declared;
      mentioned = each_next P P mentions index (get_or mentions index no_mention) c.loop-mention-test.true
          (read_at mentions index no_mention c.loop-mention-test.true) (λ y p. p)
          c.loop-mention.invariant.mentioned
          (c.sees_name_same-in-loop-mention.ensures.0 c.if-not-sees_name_same-2.false);
    }

pub returns-clause-same : goal.returns-clause-same
returns-clause-same g c t o =
    let e = text_edit g.L.CheckedItems.text c.args.items.now in
    let P : Mention → Type 0 =
    λ m. SeesSame e (result_after e c.args.rechecked.now) c.args.was c.args.item (mentioned_name m) in
    let all = each_all P c.mentioned-mention-items.result.now c.loop-mention.mention-index
    c.loop-mention-test.false c.loop-mention.invariant.mentioned in
    outline_each (SeesSame e (result_after e c.args.rechecked.now) c.args.was c.args.item) c.args.outline.now
    o c.loop-mention.invariant.declared
    (subst (λ l. (m : Mention) → IsAmong l m → P m) c.mentioned-mention-items.ensures all)
