-- There is one place where the old tokens hold again, and so one patch.
use Rattle.std.proofs.Common.{◌≡◌, ℕ, ◌+◌, ◌<◌, ◌≤◌, ◌⊎◌, inl, inr, ⊎_elim, true, List, ◌++◌, length, take}
use Rattle.std.proofs.Common.{drop, arith, sym, ap, subst, ◌∙◌, length-append, length-take-le, length-drop}
use Rattle.std.proofs.lemmas.Bool.{cases_order}
use Rattle.x_text.specs.Edits.{Change, edited_by}
use Rattle.x_lex.specs.declared.kind.Kind.{Kind}
use Rattle.x_lex.specs.Tiling.{AreTokens, end_of}
use Rattle.x_lex.specs.TokenList.{TokenPatch, patched}
use Rattle.x_lex.specs.Relex.{Agrees, IsMeeting, IsFront, IsPatch, old_place, fresh, kept_tokens}
use Rattle.x_lex.proofs.TilingLemmas.{same_tiles}
use Rattle.x_lex.proofs.SpanLemmas.{span_tiles}
use Rattle.x_lex.proofs.EndLemmas.{end_le_span, end_mono}

module _ (change : Change) (ts us : List (Kind × ℕ)) (tiles : AreTokens (edited_by change) us) where
  -- no meeting lies behind another
  not_behind : (q r : ℕ) → IsMeeting change ts us q → IsMeeting change ts us r → q < r → ⊥
  not_behind q r h k lt = first h.meets
    where
      second : q ≡ length (edited_by change) → Agrees change ts us r ⊎ (r ≡ length (edited_by change)) → ⊥
      second e (inl g) =
          let l = end_le_span us g.in_new.index in
          let s = span_tiles true (edited_by change) us tiles in
          let f = g.in_new.ends in
          omega (arith, e, l, s, f)
      second e (inr f) = omega (arith, e, f)

      first : Agrees change ts us q ⊎ (q ≡ length (edited_by change)) → ⊥
      first (inl g) = k.least q lt g
      first (inr e) = second e k.meets

  pub same_meeting : (q r : ℕ) → IsMeeting change ts us q → IsMeeting change ts us r → q ≡ r
  same_meeting q r h k =
      ⊎_elim (λ e. e) (λ o. ⊎_elim (λ lt. absurd (not_behind q r h k lt))
      (λ gt. absurd (not_behind r q k h gt)) o) (cases_order q r)

-- as many tokens end before a place
same_front : (ts : List (Kind × ℕ)) (a x y : ℕ) → IsFront ts a x → IsFront ts a y → x ≡ y
same_front ts a x y h k =
    ⊎_elim (λ e. e) (λ o. ⊎_elim (λ lt. absurd (not_less x y h k lt)) (λ gt. absurd (not_less y x k h gt)) o)
    (cases_order x y)
  where
    not_less : (i j : ℕ) → IsFront ts a i → IsFront ts a j → i < j → ⊥
    not_less i j f g lt =
        let w = g.within in
        let next = f.next (omega (arith, w)) in
        let before = g.before (omega arith) in
        let mono = end_mono ts (i + 1) j (omega arith) in
        omega (arith, next, before, mono)

-- how many tokens a patch keeps
kept_length : (ts : List (Kind × ℕ)) (at removed : ℕ) → at + removed ≤ length ts
    → length (take at ts ++ drop (at + removed) ts) + removed ≡ length ts
kept_length ts at removed within =
    let l = length-append (take at ts) (drop (at + removed) ts) in
    let t = length-take-le at ts (omega arith) in
    let d = length-drop (at + removed) ts in
    omega (arith, l, t, d)

pub same_patch : (change : Change) (ts : List (Kind × ℕ)) (p q : TokenPatch) → IsPatch change ts p
    → IsPatch change ts q → p ≡ q
same_patch change ts p q h k = λ i. record { at = at i; removed = removed i; start = start i; fresh = news i }
  where
    at : p.at ≡ q.at
    at = same_front ts change.start p.at q.at h.front k.front

    start : p.start ≡ q.start
    start = h.start ∙ ap (end_of ts) at ∙ sym k.start

    tokens : patched ts p ≡ patched ts q
    tokens = same_tiles true (edited_by change) (patched ts p) (patched ts q) h.tokens k.tokens

    place : h.place ≡ k.place
    place = same_meeting change ts (patched ts p) h.tokens h.place k.place h.meeting
        (subst (λ us. IsMeeting change ts us k.place) (sym tokens) k.meeting)

    news : p.fresh ≡ q.fresh
    news = h.fresh_are ∙ (λ i. fresh change.start (place i) (tokens i)) ∙ sym k.fresh_are

    removed : p.removed ≡ q.removed
    removed =
        let same = ap length (h.kept_are ∙ ap (λ r. kept_tokens change.start (old_place change r) ts) place
        ∙ sym k.kept_are) in
        let left = kept_length ts p.at p.removed h.among in
        let right = kept_length ts q.at q.removed k.among in
        omega (arith, same, left, right)
