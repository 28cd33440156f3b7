-- There is one patch for the items.
use Rattle.std.proofs.Common.{◌≡◌, ℕ, ◌+◌, ◌<◌, ◌≤◌, ⊎_elim, List, ◌++◌, length, take, drop, Option, None}
use Rattle.std.proofs.Common.{Some, refl, sym, ap, subst, ◌∙◌, arith}
use Rattle.std.specs.Prelude.{◌↔◌, option_map}
use Rattle.std.specs.List.{splice}
use Rattle.std.proofs.lemmas.Bool.{cases_order}
use Rattle.std.proofs.lemmas.List.{append_cancel_left, append_cancel_right}
use Rattle.x_text.specs.Edits.{Change, edited_by}
use Rattle.x_lex.specs.declared.kind.Kind.{Kind}
use Rattle.x_lex.specs.TokenList.{TokenPatch}
use Rattle.x_lex.specs.TokenList as tokens
use Rattle.x_lex.specs.Places.{lexemes}
use Rattle.x_lex.specs.Relex.{old_place}
use Rattle.x_lex.proofs.MeetingLemmas.{same_meeting}
use Rattle.x_cutting.specs.declared.cutting.item_entry.ItemEntry.{ItemEntry}
use Rattle.x_cutting.specs.ItemList.{ItemChange, counts, patched, tokens_before}
use Rattle.x_cutting.specs.Recut.{IsRelexed, IsItemPatch, IsRejoining, IsBehind, EndsBefore, AreOne, start_of}
use Rattle.x_cutting.proofs.CountLemmas.{counts-splice}
use Rattle.x_cutting.proofs.CuttingLemmas.{same_cut}

-- the place that rejoins first is one
same_join : (change : Change) (ts us : List (Kind × ℕ)) (cs ds : List ℕ) (q : ℕ) (y z : Option ℕ)
    → IsRejoining change ts us cs ds q y → IsRejoining change ts us cs ds q z → y ≡ z
same_join change ts us cs ds q None None h g = refl
same_join change ts us cs ds q None (Some z) h g = absurd (h z g.0)
same_join change ts us cs ds q (Some y) None h g = absurd (g y h.0)
same_join change ts us cs ds q (Some y) (Some z) h g =
    ap Some (⊎_elim (λ e. e) (λ o. ⊎_elim (λ lt. absurd (g.1 y lt h.0)) (λ gt. absurd (h.1 z gt g.0)) o)
    (cases_order y z))

-- the first indices that a condition holds for are as many
same_front : (n x y : ℕ) (P : ℕ → Type 0) → x ≤ n → y ≤ n → ((i : ℕ) → i < n → (i < x) ↔ P i)
    → ((i : ℕ) → i < n → (i < y) ↔ P i) → x ≡ y
same_front n x y P le ge h g =
    ⊎_elim (λ e. e) (λ o. ⊎_elim
    (λ lt. let z = (h x (omega arith)).1 ((g x (omega arith)).0 lt) in absurd (omega (arith, z)))
    (λ gt. let z = (g y (omega arith)).1 ((h y (omega arith)).0 gt) in absurd (omega (arith, z)))
    o) (cases_order x y)

same_rear : (n x y : ℕ) (P : ℕ → Type 0) → x ≤ n → y ≤ n → ((i : ℕ) → i < n → (x ≤ i) ↔ P i)
    → ((i : ℕ) → i < n → (y ≤ i) ↔ P i) → x ≡ y
same_rear n x y P le ge h g =
    ⊎_elim (λ e. e) (λ o. ⊎_elim
    (λ lt. let z = (g x (omega arith)).1 ((h x (omega arith)).0 (omega arith)) in absurd (omega (arith, z)))
    (λ gt. let z = (h y (omega arith)).1 ((g y (omega arith)).0 (omega arith)) in absurd (omega (arith, z)))
    o) (cases_order x y)

pub same_item_patch : {K : Type 0} (change : Change) (new : List ℕ) (ts : List (Kind × ℕ))
    (items : List (ItemEntry K)) (patch : TokenPatch) (p q : ItemChange K)
    → IsRelexed change new ts (counts items) patch
    → IsItemPatch change ts (tokens.patched ts patch) items p
    → IsItemPatch change ts (tokens.patched ts patch) items q → AreOne p q
same_item_patch {K} change new ts items patch p q rel h g = record {
  at = same_at;
  removed = let a = same_at in let e = same_end in omega (arith, a, e);
  start = h.start ∙ ap (tokens_before (counts items)) same_at ∙ sym g.start;
  fresh = same_fresh;
}
  where
    us : List (Kind × ℕ)
    us = tokens.patched ts patch

    h_among : p.at + p.removed ≤ length items
    h_among = h.among

    g_among : q.at + q.removed ≤ length items
    g_among = g.among

    same_at : p.at ≡ q.at
    same_at = let a = h_among in let b = g_among in
        same_front (length items) p.at q.at (EndsBefore ts (counts items) change.start) (omega (arith, a))
        (omega (arith, b)) h.front g.front

    same_left : counts (patched items p) ≡ counts (patched items q)
    same_left = same_cut (lexemes (edited_by change) (tokens.patched ts patch)) (counts (patched items p))
        (counts (patched items q)) h.cut g.cut

    same_place : h.joins.place ≡ g.joins.place
    same_place = same_meeting change ts (tokens.patched ts patch) rel.patch.tokens h.joins.place g.joins.place
        h.joins.meeting g.joins.meeting

    join_is : h.join ≡ g.join
    join_is =
        same_join change ts (tokens.patched ts patch) (counts items) (counts (patched items q)) g.joins.place
        h.join g.join
        (subst (λ r. IsRejoining change ts (tokens.patched ts patch) (counts items) (counts (patched items q))
        r h.join) same_place
        (subst (λ ds. IsRejoining change ts (tokens.patched ts patch) (counts items) ds h.joins.place h.join)
        same_left h.joins.rejoining))
        g.joins.rejoining

    same_end : p.at + p.removed ≡ q.at + q.removed
    same_end =
        same_rear (length items) (p.at + p.removed) (q.at + q.removed)
        (λ i. IsBehind (option_map (old_place change) g.join) (start_of ts (counts items) i)) h_among g_among
        (λ i lt. subst (λ z. (p.at + p.removed ≤ i) ↔ IsBehind (option_map (old_place change) z)
        (start_of ts (counts items) i)) join_is (h.rear i lt))
        g.rear

    same_fresh : counts p.fresh ≡ counts q.fresh
    same_fresh =
        let left = sym (counts-splice items p.fresh p.at (p.at + p.removed)) ∙ same_left
        ∙ counts-splice items q.fresh q.at (q.at + q.removed) in
        let one : splice (counts items) p.at (p.at + p.removed) (counts p.fresh)
        ≡ splice (counts items) p.at (p.at + p.removed) (counts q.fresh) =
        left ∙ ap (λ i. splice (counts items) i (q.at + q.removed) (counts q.fresh)) (sym same_at)
        ∙ ap (λ j. splice (counts items) p.at j (counts q.fresh)) (sym same_end) in
        append_cancel_right (counts p.fresh) (counts q.fresh) (drop (p.at + p.removed) (counts items))
        (append_cancel_left (take p.at (counts items))
        (counts p.fresh ++ drop (p.at + p.removed) (counts items))
        (counts q.fresh ++ drop (p.at + p.removed) (counts items)) one)
