-- Lexing anew from the last token that an edit leaves alone, up to a place that agrees.
use Rattle.std.proofs.Common.{◌≡◌, ℕ, suc, ◌+◌, ◌<◌, ◌≤◌, ◌⊎◌, inl, inr, ⊎_elim, false, List, [], ◌∷◌, ◌++◌}
use Rattle.std.proofs.Common.{length, arith, refl, sym, ap, ◌∙◌, length-append, add-one}
use Rattle.std.specs.Prelude.{◌||◌, nat_lt, nat_le}
use Rattle.std.proofs.lemmas.Bool.{cases_lt, lt-ltb, le-ltb, le-leb, lt-leb, cond-true, cond-false, or_left}
use Rattle.std.proofs.lemmas.Bool.{or_right, or_from}
use Rattle.std.proofs.lemmas.List.{take_at, take-append-le}
use Rattle.x_lex.specs.declared.kind.Kind.{Kind}
use Rattle.x_lex.specs.Tiling.{span, end_of}
use Rattle.x_lex.specs.Relex.{IsBoundary, fresh_from, kept_from}
use Rattle.x_lex.proofs.SpanLemmas.{span-append}
use Rattle.x_lex.proofs.EndLemmas.{end_le_span, end_mono, end_all}

-- boundaries of joined lists
pub boundary_front : (xs ys : List (Kind × ℕ)) (p : ℕ) → IsBoundary (xs ++ ys) p → p < span xs
    → IsBoundary xs p
boundary_front xs ys p h lt = at_index (cases_lt (length xs) h.index)
  where
    at_index : (length xs < h.index) ⊎ (h.index ≤ length xs) → IsBoundary xs p
    at_index (inr le) =
        record {
          index = h.index;
          within = le;
          ends = ap span (sym (take-append-le h.index xs ys le)) ∙ h.ends;
        }
    at_index (inl more) =
        let m = end_mono (xs ++ ys) (length xs) h.index (omega arith) in
        let e : end_of (xs ++ ys) (length xs) ≡ span xs = ap span (take_at xs ys (length xs) refl) in
        let f = h.ends in
        absurd (omega (arith, m, e, f))

pub boundary_pushed : (xs : List (Kind × ℕ)) (t : Kind × ℕ) (p : ℕ) → IsBoundary (xs ++ t ∷ []) p
    → p < span xs + t.1 → IsBoundary xs p
boundary_pushed xs t p h lt = at_index (cases_lt (length xs) h.index)
  where
    at_index : (length xs < h.index) ⊎ (h.index ≤ length xs) → IsBoundary xs p
    at_index (inr le) =
        record {
          index = h.index;
          within = le;
          ends = ap span (sym (take-append-le h.index xs (t ∷ []) le)) ∙ h.ends;
        }
    at_index (inl more) =
        let m = end_mono (xs ++ t ∷ []) (length (xs ++ t ∷ [])) h.index (rw length-append (omega arith)) in
        let e = end_all (xs ++ t ∷ []) in
        let s = span-append xs (t ∷ []) in
        let f = h.ends in
        absurd (omega (arith, m, e, s, f))

boundary_le : (xs : List (Kind × ℕ)) (p : ℕ) → IsBoundary xs p → p ≤ span xs
boundary_le xs p h = let e = h.ends in let l = end_le_span xs h.index in omega (arith, e, l)

-- a walk that stops at the first boundary from `target` on finds it
pub boundary_reached : (ts : List (Kind × ℕ)) (back target : ℕ) → ((j : ℕ) → j < back → end_of ts j < target)
    → (back < length ts → target ≤ end_of ts back) → IsBoundary ts target → end_of ts back ≡ target
boundary_reached ts back target below reached h = at_index (cases_lt h.index back)
  where
    at_index : (h.index < back) ⊎ (back ≤ h.index) → end_of ts back ≡ target
    at_index (inl lt) = let b = below h.index lt in let e = h.ends in absurd (omega (arith, b, e))
    at_index (inr le) =
        let m = end_mono ts back h.index le in
        let e = h.ends in
        let w = h.within in
        ⊎_elim
        (λ lt. let r = reached lt in omega (arith, m, e, r))
        (λ ge. let same : h.index ≡ back = omega (arith, w) in ap (λ i. end_of ts i) (sym same) ∙ e)
        (cases_lt back (length ts))

-- the tokens that the filters pass over and take
kept_out : (a q at : ℕ) (n : ℕ) → a ≤ at + n → at < q → (nat_lt (at + n) a || nat_le q at) ≡ false
kept_out a q at n late early = or_from (nat_lt (at + n) a) (nat_le q at) (le-ltb (at + n) a late)
    (lt-leb q at early)

pub fresh_front : (a q at : ℕ) (xs ys : List (Kind × ℕ)) → (0 < length xs → at + span xs < a)
    → fresh_from a q at (xs ++ ys) ≡ fresh_from a q (at + span xs) ys
fresh_front a q at [] ys h = let e : at ≡ at + 0 = omega arith in ap (λ n. fresh_from a q n ys) e
fresh_front a q at (x ∷ xs) ys h =
    let all : at + (x.1 + span xs) < a = h (omega arith) in
    let e : at + x.1 + span xs ≡ at + (x.1 + span xs) = omega arith in
    cond-true (nat_lt (at + x.1) a || nat_le q at) _ _
    (or_left (nat_lt (at + x.1) a) (nat_le q at) (lt-ltb (at + x.1) a (omega arith)))
    ∙ fresh_front a q (at + x.1) xs ys (λ p. omega arith)
    ∙ ap (λ n. fresh_from a q n ys) e

pub kept_front : (a q at : ℕ) (xs ys : List (Kind × ℕ)) → (0 < length xs → at + span xs < a)
    → kept_from a q at (xs ++ ys) ≡ xs ++ kept_from a q (at + span xs) ys
kept_front a q at [] ys h = let e : at ≡ at + 0 = omega arith in ap (λ n. kept_from a q n ys) e
kept_front a q at (x ∷ xs) ys h =
    let all : at + (x.1 + span xs) < a = h (omega arith) in
    let e : at + x.1 + span xs ≡ at + (x.1 + span xs) = omega arith in
    cond-true (nat_lt (at + x.1) a || nat_le q at) _ _
    (or_left (nat_lt (at + x.1) a) (nat_le q at) (lt-ltb (at + x.1) a (omega arith)))
    ∙ ap (λ l. x ∷ l) (kept_front a q (at + x.1) xs ys (λ p. omega arith)
    ∙ ap (λ n. xs ++ kept_from a q n ys) e)

-- each of the tokens ends at a or later and begins before q
pub record Between (a q at : ℕ) (xs : List (Kind × ℕ)) : Type 0 where
  pub late : (i : ℕ) → i < length xs → a ≤ at + end_of xs (i + 1)
  pub early : (i : ℕ) → i < length xs → at + end_of xs i < q

between_head : (a q at : ℕ) (x : Kind × ℕ) (xs : List (Kind × ℕ)) → Between a q at (x ∷ xs)
    → (a ≤ at + x.1) × (at < q)
between_head a q at x xs h =
    let l : a ≤ at + (x.1 + 0) = h.late 0 (omega arith) in
    let e : at + 0 < q = h.early 0 (omega arith) in
    (omega (arith, l), omega (arith, e))

between_tail : (a q at : ℕ) (x : Kind × ℕ) (xs : List (Kind × ℕ)) → Between a q at (x ∷ xs)
    → Between a q (at + x.1) xs
between_tail a q at x xs h = record {
  late = λ i lt. let e : end_of (x ∷ xs) (suc i + 1) ≡ x.1 + end_of xs (i + 1) = rw (add-one, add-one) refl in
      let l = h.late (suc i) (omega arith) in omega (arith, l, e);
  early = λ i lt. let l : at + (x.1 + end_of xs i) < q = h.early (suc i) (omega arith) in omega (arith, l);
}

pub fresh_between : (a q at : ℕ) (xs ys : List (Kind × ℕ)) → Between a q at xs
    → fresh_from a q at (xs ++ ys) ≡ xs ++ fresh_from a q (at + span xs) ys
fresh_between a q at [] ys h = let e : at ≡ at + 0 = omega arith in ap (λ n. fresh_from a q n ys) e
fresh_between a q at (x ∷ xs) ys h =
    let head = between_head a q at x xs h in
    let e : at + x.1 + span xs ≡ at + (x.1 + span xs) = omega arith in
    cond-false (nat_lt (at + x.1) a || nat_le q at) _ _ (kept_out a q at x.1 head.0 head.1)
    ∙ ap (λ l. x ∷ l) (fresh_between a q (at + x.1) xs ys (between_tail a q at x xs h)
    ∙ ap (λ n. xs ++ fresh_from a q n ys) e)

pub kept_between : (a q at : ℕ) (xs ys : List (Kind × ℕ)) → Between a q at xs
    → kept_from a q at (xs ++ ys) ≡ kept_from a q (at + span xs) ys
kept_between a q at [] ys h = let e : at ≡ at + 0 = omega arith in ap (λ n. kept_from a q n ys) e
kept_between a q at (x ∷ xs) ys h =
    let head = between_head a q at x xs h in
    let e : at + x.1 + span xs ≡ at + (x.1 + span xs) = omega arith in
    cond-false (nat_lt (at + x.1) a || nat_le q at) _ _ (kept_out a q at x.1 head.0 head.1)
    ∙ kept_between a q (at + x.1) xs ys (between_tail a q at x xs h)
    ∙ ap (λ n. kept_from a q n ys) e

pub fresh_back : (a q at : ℕ) (ys : List (Kind × ℕ)) → q ≤ at → fresh_from a q at ys ≡ []
fresh_back a q at [] le = refl
fresh_back a q at (y ∷ ys) le =
    cond-true (nat_lt (at + y.1) a || nat_le q at) _ _
    (or_right (nat_lt (at + y.1) a) (nat_le q at) (le-leb q at le))
    ∙ fresh_back a q (at + y.1) ys (omega arith)

pub kept_back : (a q at : ℕ) (ys : List (Kind × ℕ)) → q ≤ at → kept_from a q at ys ≡ ys
kept_back a q at [] le = refl
kept_back a q at (y ∷ ys) le =
    cond-true (nat_lt (at + y.1) a || nat_le q at) _ _
    (or_right (nat_lt (at + y.1) a) (nat_le q at) (le-leb q at le))
    ∙ ap (λ l. y ∷ l) (kept_back a q (at + y.1) ys (omega arith))
