-- Where the fresh tokens of a patch start and end, in both texts.
use Rattle.std.proofs.Common.{◌≡◌, ℕ, zero, suc, ◌+◌, ◌-◌, ◌≤◌, ◌<◌, ◌⊎◌, inl, inr, ⊎_elim, Bool, true, false}
use Rattle.std.proofs.Common.{List, [], ◌∷◌, ◌++◌, length, take, drop, refl, ap, sym, subst, ◌∙◌, arith}
use Rattle.std.proofs.Common.{append_assoc, length-append, length-drop, length-take-le}
use Rattle.std.specs.Prelude.{◌||◌, nat_lt, nat_le}
use Rattle.std.proofs.lemmas.Bool.{cases_lt, le-ltb, lt-leb, cond-true, cond-false, or_from}
use Rattle.std.proofs.lemmas.List.{take-append-drop, take_at, drop_at, take-append-le}
use Rattle.x_text.specs.Edits.{Change, edited_by}
use Rattle.x_lex.specs.declared.kind.Kind.{Kind}
use Rattle.x_lex.specs.Tiling.{Tiles, AreTokens, starts_after, span, end_of}
use Rattle.x_lex.specs.TokenList.{TokenPatch, patched}
use Rattle.x_lex.specs.Relex.{IsPatch, Agrees, old_place, fresh_from, kept_from}
use Rattle.x_lex.proofs.TilingLemmas.{token_spans}
use Rattle.x_lex.proofs.SpanLemmas.{span_tiles, span-append}
use Rattle.x_lex.proofs.EndLemmas.{end_le_span, end_mono, end_all}
use Rattle.x_lex.proofs.RelexLemmas.{fresh_front, kept_front, fresh_back, kept_back}
use Rattle.x_lex.proofs.RelexRun.{IsEdit, new_length}

-- tokens have bytes
grows_suc : (start : Bool) (rest : List ℕ) (ts : List (Kind × ℕ)) (i : ℕ) → Tiles start rest ts
    → i < length ts → end_of ts i < end_of ts (suc i)
grows_suc start rest [] i h lt = absurd (omega arith)
grows_suc start rest (t ∷ ts) zero h lt =
    let s = (token_spans t.0 start rest t.1 h.0).some in omega (arith, s)
grows_suc start rest (t ∷ ts) (suc i) h lt =
    let r = grows_suc (starts_after rest t.1) (drop t.1 rest) ts i h.1 (omega arith) in omega (arith, r)

pub end_strict : (text : List ℕ) (ts : List (Kind × ℕ)) (i j : ℕ) → AreTokens text ts → i < j → j ≤ length ts
    → end_of ts i < end_of ts j
end_strict text ts i j tiles lt le =
    let g = grows_suc true text ts i tiles (omega arith) in
    let m = end_mono ts (suc i) j (omega arith) in
    omega (arith, g, m)

-- so their ends tell them apart
pub end_order : (text : List ℕ) (ts : List (Kind × ℕ)) (i j : ℕ) → AreTokens text ts → i ≤ length ts
    → end_of ts i < end_of ts j → i < j
end_order text ts i j tiles le lt =
    ⊎_elim (λ l. l) (λ ge. let m = end_mono ts j i ge in absurd (omega (arith, m))) (cases_lt i j)

pub end_same : (text : List ℕ) (ts : List (Kind × ℕ)) (i j : ℕ) → AreTokens text ts → i ≤ length ts
    → j ≤ length ts → end_of ts i ≡ end_of ts j → i ≡ j
end_same text ts i j tiles le ge e =
    ⊎_elim
    (λ lt. let s = end_strict text ts i j tiles lt ge in absurd (omega (arith, s)))
    (λ a. ⊎_elim (λ lt. let s = end_strict text ts j i tiles lt le in absurd (omega (arith, s)))
    (λ b. let r : i ≡ j = omega arith in r) (cases_lt j i))
    (cases_lt i j)

take_sum : (i j : ℕ) (ts : List (Kind × ℕ)) → end_of ts (i + j) ≡ end_of ts i + end_of (drop i ts) j
take_sum zero j ts = let e : 0 + j ≡ j = omega arith in let f = ap (end_of ts) e in omega (arith, f)
take_sum (suc i) zero [] = let e : suc i + 0 ≡ suc (i + 0) = omega arith in ap (end_of []) e
take_sum (suc i) (suc j) [] = let e : suc i + suc j ≡ suc (i + suc j) = omega arith in ap (end_of []) e
take_sum (suc i) j (t ∷ ts) =
    let e : suc i + j ≡ suc (i + j) = omega arith in let f = ap (end_of (t ∷ ts)) e in
    let r = take_sum i j ts in omega (arith, f, r)

-- the place behind i tokens more
pub end_sum : (ts : List (Kind × ℕ)) (i j : ℕ) → end_of ts (i + j) ≡ end_of ts i + end_of (drop i ts) j
end_sum ts i j = take_sum i j ts

-- of tokens that all end at a or later, those that start at q or later are a rear
record Rear (a q at : ℕ) (ys : List (Kind × ℕ)) : Type 0 where
  gone : ℕ
  within : gone ≤ length ys
  left : kept_from a q at ys ≡ drop gone ys
  before : (i : ℕ) → i < gone → at + end_of ys i < q
  after : gone < length ys → q ≤ at + end_of ys gone

rear_of : (a q at : ℕ) (ys : List (Kind × ℕ)) → (0 < length ys → a ≤ at + end_of ys 1) → Rear a q at ys
rear_of a q at [] late =
    record {
      gone = 0;
      within = omega arith;
      left = refl;
      before = λ i lt. absurd (omega arith);
      after = λ lt. absurd (omega arith);
    }
rear_of a q at (y ∷ ys) late =
    by (cases_lt at q) (rear_of a q (at + y.1) ys (λ some. let l = late (omega arith) in omega (arith, l)))
  where
    by : (at < q) ⊎ (q ≤ at) → Rear a q (at + y.1) ys → Rear a q at (y ∷ ys)
    by (inr le) r =
        record {
          gone = 0;
          within = omega arith;
          left = kept_back a q at (y ∷ ys) le;
          before = λ i lt. absurd (omega arith);
          after = λ lt. omega arith;
        }
    by (inl lt) r = record {
      gone = suc r.gone;
      within = let w = r.within in omega (arith, w);
      left =
          let l : a ≤ at + (y.1 + 0) = late (omega arith) in
          cond-false (nat_lt (at + y.1) a || nat_le q at) (y ∷ kept_from a q (at + y.1) ys)
          (kept_from a q (at + y.1) ys) (or_from (nat_lt (at + y.1) a) (nat_le q at)
          (le-ltb (at + y.1) a (omega (arith, l))) (lt-leb q at lt)) ∙ r.left;
      before = below;
      after = λ more. let a = r.after (omega arith) in omega (arith, a);
    }
      where
        below : (i : ℕ) → i < suc r.gone → at + end_of (y ∷ ys) i < q
        below zero l = omega arith
        below (suc i) l = let b = r.before i (omega arith) in omega (arith, b)

-- no more tokens are fresh than those before q
fresh_few : (a q at : ℕ) (xs ys : List (Kind × ℕ)) → q ≤ at + span xs
    → length (fresh_from a q at (xs ++ ys)) ≤ length xs
fresh_few a q at [] ys le = let e = ap length (fresh_back a q at ys (omega arith)) in omega (arith, e)
fresh_few a q at (x ∷ xs) ys le =
    by (nat_lt (at + x.1) a || nat_le q at) refl (fresh_few a q (at + x.1) xs ys (omega arith))
  where
    by : (b : Bool) → (nat_lt (at + x.1) a || nat_le q at) ≡ b → length (fresh_from a q (at + x.1) (xs ++ ys))
        ≤ length xs → length (fresh_from a q at (x ∷ (xs ++ ys))) ≤ suc (length xs)
    by true e r =
        let c = ap length (cond-true (nat_lt (at + x.1) a || nat_le q at)
        (fresh_from a q (at + x.1) (xs ++ ys)) (x ∷ fresh_from a q (at + x.1) (xs ++ ys)) e) in
        omega (arith, c, r)
    by false e r =
        let c = ap length (cond-false (nat_lt (at + x.1) a || nat_le q at)
        (fresh_from a q (at + x.1) (xs ++ ys)) (x ∷ fresh_from a q (at + x.1) (xs ++ ys)) e) in
        omega (arith, c, r)

module _ (change : Change) (new : List ℕ) (edit : IsEdit change new) (ts : List (Kind × ℕ))
    (tiles : AreTokens change.old ts) (patch : TokenPatch) (is : IsPatch change ts patch) where
  abbrev us : List (Kind × ℕ)
  us = patched ts patch

  abbrev rest : List (Kind × ℕ)
  rest = drop (patch.at + patch.removed) ts

  front_length : length (take patch.at ts) ≡ patch.at
  front_length = length-take-le patch.at ts is.front.within

  pub new_tokens : AreTokens new us
  new_tokens = subst (λ text. AreTokens text us) (sym edit.result) is.tokens

  meets : Agrees change ts us is.place ⊎ (is.place ≡ length new)
  meets = by is.meeting.meets
    where
      by : Agrees change ts us is.place ⊎ (is.place ≡ length (edited_by change))
          → Agrees change ts us is.place ⊎ (is.place ≡ length new)
      by (inl h) = inl h
      by (inr e) = inr (e ∙ ap length (sym edit.result))

  pub meeting_late : change.start + length change.insert ≤ is.place
  meeting_late = ⊎_elim (λ h. h.behind) (λ e. let n = new_length change new edit in omega (arith, e, n)) meets

  old_meeting : ℕ
  old_meeting = old_place change is.place

  -- the tokens that go end where the old ones hold again
  rear : Rear change.start (old_place change is.place) (end_of ts patch.at) (drop patch.at ts)
  rear = rear_of change.start (old_place change is.place) (end_of ts patch.at) (drop patch.at ts) (λ some.
      let d = length-drop patch.at ts in
      let n = is.front.next (omega (arith, some, d)) in
      let s = end_sum ts patch.at 1 in
      omega (arith, n, s))

  gone_is : rear.gone ≡ patch.removed
  gone_is =
      let q = old_place change is.place in
      let k : kept_from change.start q 0 ts ≡ take patch.at ts ++ drop rear.gone (drop patch.at ts) =
      ap (kept_from change.start q 0) (sym (take-append-drop patch.at ts))
      ∙ kept_front change.start q 0 (take patch.at ts) (drop patch.at ts) (λ some. let f = front_length in
      let l = is.front.before (omega (arith, some, f)) in omega (arith, l))
      ∙ ap (λ n. take patch.at ts ++ kept_from change.start q n (drop patch.at ts))
      (let z : 0 + span (take patch.at ts) ≡ end_of ts patch.at = omega arith in z)
      ∙ ap (λ l. take patch.at ts ++ l) rear.left in
      let l = ap length (is.kept_are ∙ k) in
      let m = length-append (take patch.at ts) (drop (patch.at + patch.removed) ts) in
      let n = length-append (take patch.at ts) (drop rear.gone (drop patch.at ts)) in
      let d = length-drop (patch.at + patch.removed) ts in
      let e = length-drop rear.gone (drop patch.at ts) in
      let g = length-drop patch.at ts in
      let w = rear.within in
      let among : patch.at + patch.removed ≤ length ts = is.among in
      omega (arith, l, m, n, d, e, g, w, among)

  -- the old place is a boundary
  abbrev OldBoundary : Type 0
  OldBoundary = (i : ℕ) × (i ≤ length ts) × (end_of ts i ≡ old_place change is.place)

  old_boundary : OldBoundary
  old_boundary = by meets
    where
      by : Agrees change ts us is.place ⊎ (is.place ≡ length new) → OldBoundary
      by (inl h) = (h.in_old.index, h.in_old.within, h.in_old.ends)
      by (inr e) =
          let n = new_length change new edit in
          let s = span_tiles true change.old ts tiles in
          let l = end_all ts in
          let o = edit.lies.forward in
          let w = edit.lies.within in
          (length ts, omega arith, omega (arith, e, n, s, l, o, w))

  pub old_end : end_of ts (patch.at + patch.removed) ≡ old_place change is.place
  old_end =
      let h = old_boundary in
      let among : patch.at + patch.removed ≤ length ts = is.among in
      let g = gone_is in
      let o = edit.lies.forward in
      let late = meeting_late in
      let ends = h.2 in
      let not_less : h.0 < patch.at + patch.removed → ⊥ = λ lt.
      ⊎_elim
      (λ in_front.
      let m = end_mono ts h.0 patch.at (omega arith) in
      let f = is.front.before (omega arith) in
      omega (arith, m, f, ends, late, o))
      (λ in_gone.
      let e : h.0 ≡ patch.at + (h.0 - patch.at) = omega arith in
      let s = end_sum ts patch.at (h.0 - patch.at) in
      let b = rear.before (h.0 - patch.at) (omega (arith, g)) in
      let same = ap (end_of ts) e in
      omega (arith, s, b, same, ends))
      (cases_lt h.0 patch.at) in
      let not_more : patch.at + patch.removed < h.0 → ⊥ = λ lt.
      let d = length-drop patch.at ts in
      let w = h.1 in
      let r = rear.after (omega (arith, g, d, w)) in
      let s = end_sum ts patch.at patch.removed in
      let same = ap (end_of (drop patch.at ts)) g in
      let m = end_strict change.old ts (patch.at + patch.removed) h.0 tiles lt w in
      omega (arith, r, s, same, m, ends) in
      let index : patch.at + patch.removed ≡ h.0 =
      ⊎_elim (λ lt. absurd (not_more lt))
      (λ le. ⊎_elim (λ lt. absurd (not_less lt))
      (λ ge. let r : patch.at + patch.removed ≡ h.0 = omega arith in r)
      (cases_lt h.0 (patch.at + patch.removed))) (cases_lt (patch.at + patch.removed) h.0) in
      ap (end_of ts) index ∙ ends

  front_and_fresh : length (take patch.at ts ++ patch.fresh) ≡ patch.at + length patch.fresh
  front_and_fresh = length-append (take patch.at ts) patch.fresh
      ∙ ap (λ n. n + length patch.fresh) front_length

  -- what is left behind the fresh tokens
  pub new_rest : drop (patch.at + length patch.fresh) us ≡ rest
  new_rest =
      ap (drop (patch.at + length patch.fresh)) (sym (append_assoc (take patch.at ts) patch.fresh rest))
      ∙ drop_at (take patch.at ts ++ patch.fresh) rest (patch.at + length patch.fresh) front_and_fresh

  -- the fresh tokens end where the old ones hold again
  pub new_end : end_of us (patch.at + length patch.fresh) ≡ is.place
  new_end =
      let n = new_length change new edit in
      let s = span_tiles true change.old ts tiles in
      let t = span_tiles true new us new_tokens in
      let e = old_end in
      let late = meeting_late in
      let o = edit.lies.forward in
      let w = edit.lies.within in
      let u = ap span (take-append-drop (patch.at + patch.removed) ts) in
      let v = span-append (take (patch.at + patch.removed) ts) rest in
      let x = ap span (take-append-drop (patch.at + length patch.fresh) us) in
      let y = span-append (take (patch.at + length patch.fresh) us)
      (drop (patch.at + length patch.fresh) us) in
      let z = ap span new_rest in
      let p = place_le in
      omega (arith, n, s, t, e, late, o, w, u, v, x, y, z, p)
    where
      place_le : is.place ≤ length new
      place_le = ⊎_elim
          (λ h. let i = h.in_new.ends in let l = end_le_span us h.in_new.index in
          let t = span_tiles true new us new_tokens in omega (arith, i, l, t))
          (λ e. omega (arith, e))
          meets

  -- the boundaries from there on
  pub shifted : (i : ℕ) → old_place change (end_of us (patch.at + length patch.fresh + i))
      ≡ end_of ts (patch.at + patch.removed + i)
  shifted i =
      let s = end_sum us (patch.at + length patch.fresh) i in
      let t = end_sum ts (patch.at + patch.removed) i in
      let r = ap (λ l. end_of l i) new_rest in
      let e = new_end in
      let f = old_end in
      let late = meeting_late in
      omega (arith, s, t, r, e, f, late)

  -- the boundaries of the kept tokens in front
  pub front_end : (i : ℕ) → i ≤ patch.at → end_of us i ≡ end_of ts i
  front_end i le =
      let f = front_length in
      ap span (take-append-le i (take patch.at ts) (patch.fresh ++ rest) (omega (arith, f)))
      ∙ sym (ap span (take-append-le i (take patch.at ts) (drop patch.at ts) (omega (arith, f))))
      ∙ ap (λ l. end_of l i) (take-append-drop patch.at ts)

  -- a fresh token doesn't end before a
  pub late_new : patch.at < length us → change.start ≤ end_of us (patch.at + 1)
  late_new some = ⊎_elim (λ lt. absurd (not_before patch.fresh refl lt)) (λ le. le)
      (cases_lt (end_of us (patch.at + 1)) change.start)
    where
      not_before : (news : List (Kind × ℕ)) → patch.fresh ≡ news → end_of us (patch.at + 1) < change.start → ⊥
      not_before [] e lt =
          let n = new_end in
          let l = ap (λ k. end_of us (patch.at + k)) (ap length e) in
          let z = ap (end_of us) (let y : patch.at + 0 ≡ patch.at = omega arith in y) in
          let m = end_mono us patch.at (patch.at + 1) (omega arith) in
          let late = meeting_late in
          omega (arith, n, l, z, m, late, lt)
      not_before (f ∷ fs) e lt =
          let here : us ≡ (take patch.at ts ++ f ∷ []) ++ (fs ++ rest) =
          ap (λ l. take patch.at ts ++ (l ++ rest)) e
          ∙ sym (append_assoc (take patch.at ts) (f ∷ []) (fs ++ rest)) in
          let one : length (take patch.at ts ++ f ∷ []) ≡ patch.at + 1 =
          length-append (take patch.at ts) (f ∷ []) ∙ ap (λ n. n + 1) front_length in
          let ends : end_of us (patch.at + 1) ≡ span (take patch.at ts ++ f ∷ []) =
          ap (λ l. end_of l (patch.at + 1)) here
          ∙ ap span (take_at (take patch.at ts ++ f ∷ []) (fs ++ rest) (patch.at + 1) one) in
          let q = is.place in
          let far : q ≤ 0 + span (take patch.at ts ++ f ∷ []) + span fs =
          let n = new_end in
          let l = ap (λ k. end_of us (patch.at + k)) (ap length e) in
          let two : length ((take patch.at ts ++ f ∷ []) ++ fs) ≡ patch.at + suc (length fs) =
          let m = length-append (take patch.at ts ++ f ∷ []) fs in omega (arith, m, one) in
          let all : end_of us (patch.at + suc (length fs)) ≡ span ((take patch.at ts ++ f ∷ []) ++ fs) =
          ap (λ l. end_of l (patch.at + suc (length fs)))
          (here ∙ sym (append_assoc (take patch.at ts ++ f ∷ []) fs rest))
          ∙ ap span (take_at ((take patch.at ts ++ f ∷ []) ++ fs) rest (patch.at + suc (length fs)) two) in
          let s = span-append (take patch.at ts ++ f ∷ []) fs in
          omega (arith, n, l, all, s) in
          let fresh_is : patch.fresh ≡ fresh_from change.start q (0 + span (take patch.at ts ++ f ∷ []))
          (fs ++ rest) =
          is.fresh_are ∙ ap (fresh_from change.start q 0) here
          ∙ fresh_front change.start q 0 (take patch.at ts ++ f ∷ []) (fs ++ rest)
          (λ some. omega (arith, ends)) in
          let few = fresh_few change.start q (0 + span (take patch.at ts ++ f ∷ [])) fs rest far in
          let count = ap length fresh_is in
          let all = ap length e in
          omega (arith, few, count, all)
