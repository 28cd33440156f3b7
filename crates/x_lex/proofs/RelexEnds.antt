-- The end of the loop of `relex`: the patch.
use mathlib.Core.Bool.{beq}
use Rattle.std.proofs.Common.{◌≡◌, ℕ, zero, suc, ◌+◌, ◌-◌, ◌<◌, ◌≤◌, ◌⊎◌, inl, inr, Result, Ok, Err, Bool}
use Rattle.std.proofs.Common.{true, false, List, [], ◌∷◌, ◌++◌, length, get_or, take, drop, arith, refl, sym}
use Rattle.std.proofs.Common.{ap, subst, ◌∙◌, length-drop, length-append, length-take-le, append_assoc}
use Rattle.std.proofs.Common.{take-append-drop}
use Rattle.std.proofs.lemmas.List.{drop-drop, drop_all, take_at, take-take, append-nil}
use Rattle.x_text.specs.Edits.{Change, edited_by}
use Rattle.x_lex.specs.declared.kind.Kind.{Kind}
use Rattle.x_lex.specs.Word.{IsToken}
use Rattle.std.specs.Prelude.{◌==◌, IfOk}
use Rattle.x_text.specs.declared.text.source.TheConstants.{MAX_TEXT}
use Rattle.x_lists.specs.declared.no_memory.NoMemory.{NoMemory}
use Rattle.x_lex.specs.Tiling.{Tiles, starts_after, AreTokens, span, end_of}
use Rattle.x_lex.specs.Places.{is_line_start}
use Rattle.x_lex.specs.TokenList.{TokenPatch, patched, IsOfText}
use Rattle.x_lex.specs.Relex.{IsBoundary, old_place, Agrees, fresh, fresh_from, kept_tokens, kept_from}
use Rattle.x_lex.specs.Relex.{IsPatch}
use Rattle.x_lex.specs.Relex.{IsFront}
use Rattle.x_lex.proofs.TilingLemmas.{token_spans}
use Rattle.x_lex.proofs.SpanLemmas.{span-append, span_tiles}
use Rattle.x_lex.proofs.EndLemmas.{end_mono, end_all, tiles_from}
use Rattle.x_lex.proofs.RelexLemmas.{boundary_front, fresh_front, kept_front, Between, fresh_between}
use Rattle.x_lex.proofs.RelexLemmas.{kept_between, fresh_back, kept_back}
use Rattle.x_lex.proofs.RelexRun.{IsEdit, Meets, Relexing, new_length, drop_new, relexing_none, relexing_more}

-- the patch that takes `removed` tokens out from index x on
abbrev pub made : List (Kind × ℕ) → ℕ → ℕ → List (Kind × ℕ) → TokenPatch
made ts x removed news = record { at = x; removed = removed; start = end_of ts x; fresh = news }

-- the same with the place as it was found
pub patch_is : (change : Change) (ts : List (Kind × ℕ)) (x removed start : ℕ) (news : List (Kind × ℕ))
    (patch : TokenPatch) →
    patch ≡ record { at = x; removed = removed; start = start; fresh = news } → start ≡ end_of ts x
    → IsPatch change ts (made ts x removed news) → IsPatch change ts patch
patch_is change ts x removed start news patch is at h =
    subst (λ p. IsPatch change ts p)
    (sym (is ∙ λ i. record { at = x; removed = removed; start = at i; fresh = news })) h

-- old tokens behind the patch, those from an index on, stand behind a place
pub stands_behind : (ts : List (Kind × ℕ)) (x index start place : ℕ) (news : List (Kind × ℕ))
    (patch : TokenPatch) →
    patch ≡ record { at = x; removed = index - x; start = start; fresh = news } → x ≤ index
    → place ≤ end_of ts index → place ≤ end_of ts (patch.at + patch.removed)
stands_behind ts x index start place news patch is le h =
    let at : x + (index - x) ≡ index = omega (arith, le) in
    subst (λ n. place ≤ end_of ts n) (sym (ap (λ p. p.at + p.removed) is ∙ at)) h

-- all tokens of a text end where it does
pub end_of_all : (text : List ℕ) (ts : List (Kind × ℕ)) → AreTokens text ts
    → end_of ts (length ts) ≡ length text
end_of_all text ts h = end_all ts ∙ span_tiles true text ts h

end_nil : (i : ℕ) → end_of [] i ≡ 0
end_nil zero = refl
end_nil (suc i) = refl

end_drop : (ts : List (Kind × ℕ)) (x i : ℕ) → end_of ts x + end_of (drop x ts) i ≡ end_of ts (x + i)
end_drop ts zero i = let e : i ≡ 0 + i = omega arith in let f : 0 + end_of ts i ≡ end_of ts i = omega arith in
    f ∙ ap (λ j. end_of ts j) e
end_drop [] (suc x) i = let e = end_nil i in let f = end_nil (suc x + i) in omega (arith, e, f)
end_drop (t ∷ ts) (suc x) i =
    let r = end_drop ts x i in
    let e : suc (x + i) ≡ suc x + i = omega arith in
    let f : t.1 + end_of ts x + end_of (drop x ts) i ≡ t.1 + end_of ts (x + i) = omega (arith, r) in
    f ∙ ap (λ j. end_of (t ∷ ts) j) e

-- a token begins before the end
pub end_lt_span : (start : Bool) (rest : List ℕ) (ts : List (Kind × ℕ)) → Tiles start rest ts → (j : ℕ)
    → j < length ts → end_of ts j < span ts
end_lt_span start rest [] h j lt = absurd (omega arith)
end_lt_span start rest (t ∷ ts) h zero lt =
    let s = (token_spans t.0 start rest t.1 h.0).some in omega (arith, s)
end_lt_span start rest (t ∷ ts) h (suc j) lt =
    let r = end_lt_span (starts_after rest t.1) (drop t.1 rest) ts h.1 j (omega arith) in omega (arith, r)

module _ (change : Change) (new : List ℕ) (edit : IsEdit change new) (ts : List (Kind × ℕ))
    (tiles : AreTokens change.old ts) (x : ℕ) (front : IsFront ts change.start x) where
  module _ (news : List (Kind × ℕ)) (start : Bool) (at : ℕ) (h : Relexing change new ts x news start at)
      (back : ℕ) (from : x ≤ back) (within : back ≤ length ts) where
    back_is : x + (back - x) ≡ back
    back_is = omega arith

    patched_is : patched ts (made ts x (back - x) news) ≡ take x ts ++ news ++ drop back ts
    patched_is = ap (λ i. take x ts ++ (news ++ drop i ts)) back_is
        ∙ sym (append_assoc (take x ts) news (drop back ts))

    sums : end_of ts x + span news ≡ at
    sums = let s = span-append (take x ts) news in let e = h.spans in omega (arith, s, e)

    mids : List (Kind × ℕ)
    mids = take (back - x) (drop x ts)

    split : take x ts ++ (take (back - x) (drop x ts) ++ drop back ts) ≡ ts
    split =
        ap (λ l. take x ts ++ (take (back - x) (drop x ts) ++ l))
        (ap (λ i. drop i ts) (sym back_is) ∙ sym (drop-drop (back - x) x ts))
        ∙ ap (λ l. take x ts ++ l) (take-append-drop (back - x) (drop x ts))
        ∙ take-append-drop x ts

    mids_length : length (take (back - x) (drop x ts)) ≡ back - x
    mids_length = length-take-le (back - x) (drop x ts) (let d = length-drop x ts in omega (arith, d))

    mid_end : (i : ℕ) → i ≤ back - x → end_of ts x + end_of (take (back - x) (drop x ts)) i
        ≡ end_of ts (x + i)
    mid_end i le = ap (λ l. end_of ts x + span l) (take-take i (back - x) (drop x ts) le) ∙ end_drop ts x i

    mid_span : end_of ts x + span (take (back - x) (drop x ts)) ≡ end_of ts back
    mid_span = end_drop ts x (back - x) ∙ ap (λ i. end_of ts i) back_is

    pub fresh_is : news ≡ fresh change.start at (patched ts (made ts x (back - x) news))
    fresh_is =
        let z : 0 + end_of ts x ≡ end_of ts x = omega arith in
        sym (
        ap (λ l. fresh change.start at l) (patched_is ∙ append_assoc (take x ts) news (drop back ts))
        ∙ fresh_front change.start at 0 (take x ts) (news ++ drop back ts) before
        ∙ ap (λ n. fresh_from change.start at n (news ++ drop back ts)) z
        ∙ fresh_between change.start at (end_of ts x) news (drop back ts) h.between
        ∙ ap (λ l. news ++ l) (fresh_back change.start at (end_of ts x + span news) (drop back ts)
        (let s = sums in omega (arith, s)))
        ∙ append-nil news
        )
      where
        before : 0 < length (take x ts) → 0 + span (take x ts) < change.start
        before p = let l = length-take-le x ts front.within in let f = front.before (omega (arith, l)) in
            omega (arith, f)

    pub kept_is : (q : ℕ) → end_of ts back ≡ q → ((j : ℕ) → j < back → end_of ts j < q)
        → take x ts ++ drop (x + (back - x)) ts ≡ kept_tokens change.start q ts
    kept_is q e below =
        let z : 0 + end_of ts x ≡ end_of ts x = omega arith in
        let m = mid_span in
        ap (λ i. take x ts ++ drop i ts) back_is
        ∙ sym (
        ap (λ l. kept_tokens change.start q l) (sym split)
        ∙ kept_front change.start q 0 (take x ts) (take (back - x) (drop x ts) ++ drop back ts) before
        ∙ ap (λ l. take x ts ++ l) (
        ap (λ n. kept_from change.start q n (take (back - x) (drop x ts) ++ drop back ts)) z
        ∙ kept_between change.start q (end_of ts x) (take (back - x) (drop x ts)) (drop back ts) between
        ∙ kept_back change.start q (end_of ts x + span (take (back - x) (drop x ts))) (drop back ts)
        (omega (arith, m, e))
        )
        )
      where
        before : 0 < length (take x ts) → 0 + span (take x ts) < change.start
        before p = let l = length-take-le x ts front.within in let f = front.before (omega (arith, l)) in
            omega (arith, f)

        between : Between change.start q (end_of ts x) (take (back - x) (drop x ts))
        between = record {
          late = λ i lt.
              let l = mids_length in
              let f = front.next (omega (arith, l)) in
              let g = end_mono ts (x + 1) (x + (i + 1)) (omega arith) in
              let k = mid_end (i + 1) (omega (arith, l)) in
              omega (arith, f, g, k);
          early = λ i lt.
              let l = mids_length in
              let k = mid_end i (omega (arith, l)) in
              let g = below (x + i) (omega (arith, l)) in
              omega (arith, k, g);
        }

    pub patch_at : AreTokens new (patched ts (made ts x (back - x) news))
        → (Meets change new ts at ⊎ (at ≡ length new)) → end_of ts back ≡ old_place change at
        → ((j : ℕ) → j < back → end_of ts j < old_place change at)
        → IsPatch change ts (made ts x (back - x) news)
    patch_at tokens meets e below = record {
      front = front;
      start = refl;
      among = omega arith;
      tokens = subst (λ text. AreTokens text (patched ts (made ts x (back - x) news))) edit.result tokens;
      place = at;
      meeting = record { meets = agrees meets; least = least };
      fresh_are = fresh_is;
      kept_are = kept_is (old_place change at) e below;
    }
      where
        boundary : IsBoundary (take x ts ++ news ++ drop back ts) at
        boundary = record {
          index = length (take x ts ++ news);
          within = let l = length-append (take x ts ++ news) (drop back ts) in omega (arith, l);
          ends = ap span (take_at (take x ts ++ news) (drop back ts) (length (take x ts ++ news)) refl)
              ∙ h.spans;
        }

        agrees : Meets change new ts at ⊎ (at ≡ length new)
            → Agrees change ts (patched ts (made ts x (back - x) news)) at ⊎ (at ≡ length (edited_by change))
        agrees (inr end) = inr (end ∙ ap length edit.result)
        agrees (inl m) = inl (record {
          behind = m.behind;
          in_new = subst (λ l. IsBoundary l at) (sym patched_is) boundary;
          in_old = m.in_old;
          starts = m.starts ∙ ap (λ text. is_line_start text at) edit.result;
        })

        least : (p : ℕ) → p < at → Agrees change ts (patched ts (made ts x (back - x) news)) p → ⊥
        least p lt g =
            let s = h.spans in
            let i : IsBoundary (take x ts ++ news) p = boundary_front (take x ts ++ news) (drop back ts) p
            (subst (λ l. IsBoundary l p) patched_is g.in_new) (omega (arith, s)) in
            h.none p lt i (record {
              behind = g.behind;
              in_old = g.in_old;
              starts = g.starts ∙ ap (λ text. is_line_start text p) (sym edit.result);
            })

    -- where the place agrees
    pub patch_agreed : change.start + length change.insert ≤ at → end_of ts back ≡ old_place change at
        → is_line_start change.old (old_place change at) ≡ start
        → ((j : ℕ) → j < back → end_of ts j < old_place change at)
        → IsPatch change ts (made ts x (back - x) news)
    patch_agreed behind e starts below =
        patch_at tokens
        (inl (record {
          behind = behind;
          in_old = record { index = back; within = within; ends = e };
          starts = starts ∙ h.bit;
        })) e below
      where
        rest : Tiles (is_line_start change.old (end_of ts back)) (drop (end_of ts back) change.old)
            (drop back ts)
        rest = tiles_from back change.old ts tiles within

        moved : Tiles (is_line_start change.old (old_place change at)) (drop (old_place change at) change.old)
            (drop back ts)
        moved = subst (λ p. Tiles (is_line_start change.old p) (drop p change.old) (drop back ts)) e rest

        here : Tiles start (drop at new) (drop back ts)
        here = subst (λ s. Tiles s (drop at new) (drop back ts)) starts
            (subst (λ l. Tiles (is_line_start change.old (old_place change at)) l (drop back ts))
            (sym (drop_new change new edit at behind)) moved)

        tokens : AreTokens new (patched ts (made ts x (back - x) news))
        tokens = subst (λ l. Tiles true new l) (sym patched_is) (h.leads.goes_on (drop back ts) here)

  -- where no place agrees
  pub patch_ended : (news : List (Kind × ℕ)) (start : Bool) → Relexing change new ts x news start (length new)
      → IsPatch change ts (made ts x (length ts - x) news)
  patch_ended news start h =
      patch_at news start (length new) h (length ts) front.within (omega arith) tokens (inr refl) whole
      (λ j lt. let l = end_lt_span true change.old ts tiles j lt in omega (arith, l, whole, end_all ts))
    where
      whole : end_of ts (length ts) ≡ old_place change (length new)
      whole =
          let e = end_all ts in
          let s = span_tiles true change.old ts tiles in
          let n = new_length change new edit in
          let o = edit.lies.forward in
          let w = edit.lies.within in
          omega (arith, e, s, n, o, w)

      tokens : AreTokens new (patched ts (made ts x (length ts - x) news))
      tokens =
          subst (λ l. Tiles true new l)
          (sym (patched_is news start (length new) h (length ts) front.within (omega arith)))
          (h.leads.goes_on (drop (length ts) ts)
          (subst (λ l. Tiles start (drop (length new) new) l) (sym (drop_all (length ts) ts (omega arith)))
          (drop_all (length new) new (omega arith))))

module _ (change : Change) (new : List ℕ) (edit : IsEdit change new) (ts : List (Kind × ℕ))
    (tiles : AreTokens change.old ts) (x : ℕ) (front : IsFront ts change.start x) where
  -- before the loop
  pub relexing_start : (news : List (Kind × ℕ)) (start : Bool) (at : ℕ) → news ≡ []
      → start ≡ is_line_start new at → at ≡ end_of ts x → Relexing change new ts x news start at
  relexing_start news start at e s p =
      let q : start ≡ is_line_start new (end_of ts x) = s ∙ ap (λ i. is_line_start new i) p in
      subst (λ l. Relexing change new ts x l start at) (sym e)
      (subst (λ i. Relexing change new ts x [] start i) (sym p)
      (subst (λ c. Relexing change new ts x [] c (end_of ts x)) (sym q)
      (relexing_none change new edit ts tiles x front)))

  -- after a push
  pub relexing_pushed : (news pushed : List (Kind × ℕ)) (start : Bool) (at end : ℕ) (k : Kind)
      → Relexing change new ts x news start at → (Meets change new ts at → ⊥) → at < end → end ≤ length new
      → IsToken k start (drop at new) (end - at) → pushed ≡ news ++ (k, end - at) ∷ []
      → Relexing change new ts x pushed (get_or new (end - 1) 0 == 10) end
  relexing_pushed news pushed start at end k h apart lt fit t e =
      subst (λ l. Relexing change new ts x l (get_or new (end - 1) 0 == 10) end) (sym e)
      (relexing_more change new edit ts tiles x front news start at end k h apart lt fit t)

pub same_from_beq : (x y : Bool) → beq x y ≡ true → x ≡ y
same_from_beq true true h = refl
same_from_beq true false h = cc
same_from_beq false true h = cc
same_from_beq false false h = refl

pub differ_from_beq : (x y : Bool) → beq x y ≡ false → x ≡ y → ⊥
differ_from_beq true true h e = cc
differ_from_beq true false h e = cc
differ_from_beq false true h e = cc
differ_from_beq false false h e = cc

-- a text has no more tokens than bytes
length_le_text : (start : Bool) (rest : List ℕ) (ts : List (Kind × ℕ)) → Tiles start rest ts
    → length ts ≤ length rest
length_le_text start rest [] h = omega arith
length_le_text start rest (t ∷ ts) h =
    let s = token_spans t.0 start rest t.1 h.0 in
    let some = s.some in
    let within = s.within in
    let r = length_le_text (starts_after rest t.1) (drop t.1 rest) ts h.1 in
    let d = length-drop t.1 rest in
    omega (arith, some, within, r, d)

-- the tokens of a text that isn't too long are as few and as short as those of a text can be
pub tokens_fit : (text : List ℕ) (ts : List (Kind × ℕ)) → AreTokens text ts → length text ≤ MAX_TEXT
    → IsOfText ts
tokens_fit text ts h le = record {
  few = let f = length_le_text true text ts h in omega (arith, f);
  short = let s = span_tiles true text ts h in omega (arith, s);
}

-- what is so of a patch that was made
pub if_made : (r : Result TokenPatch NoMemory) (P Q : TokenPatch → Type 0) → ((p : TokenPatch) → P p → Q p)
    → IfOk r P → IfOk r Q
if_made (Ok p) P Q f h = f p h
if_made (Err e) P Q f h = h
