-- The numbers of items before an edit and after it, and what stands there.
use Rattle.std.specs.Prelude.{slice_get, option_and_then, nat_lt}
use Rattle.std.specs.List.{splice}
use Rattle.std.proofs.Common.{◌≡◌, ◌<◌, ◌≤◌, ◌⊎◌, inl, inr, ℕ, zero, suc, ◌+◌, ◌-◌, Bool, true, false, cond}
use Rattle.std.proofs.Common.{List, [], ◌∷◌, ◌++◌, take, drop, length, Option, Some, None, refl, sym, ap}
use Rattle.std.proofs.Common.{subst, ◌∙◌, arith}
use Rattle.std.proofs.lemmas.Bool.{ltb-true, ltb-false, lt-ltb, le-ltb}
use Rattle.std.proofs.lemmas.List.{length-take-le}
use Rattle.std.proofs.lemmas.Option.{same_Some, slice_get_within}
use Rattle.x_trees.specs.Tree.{Definition}
use Rattle.x_lists.proofs.ListLemmas.{get_drop}
use Rattle.x_uses.specs.declared.uses.ItemSplice.{ItemSplice}
use Rattle.x_recheck.specs.Editing.{TextEdit, definitions_after, IsEdit, definition_at, old_number}
use Rattle.x_trees.specs.Spell.{IsShort}
use Rattle.x_names.specs.Declarers.{AreShort}
use Rattle.x_recheck.specs.inside.Deciding.{IsFormer}

-- ---- lists

pub get_front : {X : Type 0} (xs ys : List X) (i : ℕ) → i < length xs
    → slice_get (xs ++ ys) i ≡ slice_get xs i
get_front [] ys i lt = absurd (omega (arith, lt))
get_front (x ∷ xs) ys zero lt = refl
get_front (x ∷ xs) ys (suc i) lt = get_front xs ys i (omega (arith, lt))

pub get_rear : {X : Type 0} (xs ys : List X) (i : ℕ) → length xs ≤ i
    → slice_get (xs ++ ys) i ≡ slice_get ys (i - length xs)
get_rear [] ys i le = let e : i ≡ i - 0 = omega arith in ap (slice_get ys) e
get_rear (x ∷ xs) ys zero le = absurd (omega (arith, le))
get_rear (x ∷ xs) ys (suc i) le =
    let e : i - length xs ≡ suc i - suc (length xs) = omega arith in
    get_rear xs ys i (omega (arith, le)) ∙ ap (slice_get ys) e

get_take : {X : Type 0} (n : ℕ) (xs : List X) (i : ℕ) → i < n → slice_get (take n xs) i ≡ slice_get xs i
get_take zero xs i lt = absurd (omega (arith, lt))
get_take (suc n) [] i lt = refl
get_take (suc n) (x ∷ xs) zero lt = refl
get_take (suc n) (x ∷ xs) (suc i) lt = get_take n xs i (omega (arith, lt))

-- ---- numbers

-- a kept item stands before the place or behind it
abbrev pub IsKeptAs : ItemSplice → ℕ → ℕ → Type 0
IsKeptAs p k j = ((k < p.at) × (j ≡ k)) ⊎ ((p.at + p.added ≤ k) × (j + p.added ≡ k + p.removed))

pub kept_cases : (p : ItemSplice) (k j : ℕ) → old_number p k ≡ Some j → IsKeptAs p k j
kept_cases p k j h = by (nat_lt k p.at) refl (nat_lt k (p.at + p.added)) refl h
  where
    by : (b : Bool) → nat_lt k p.at ≡ b → (c : Bool) → nat_lt k (p.at + p.added) ≡ c
        → cond b (Some k) (cond c None (Some (k - p.added + p.removed))) ≡ Some j → IsKeptAs p k j
    by true e c d h = inl (ltb-true k p.at e, sym (same_Some k j h))
    by false e true d h = absurd (cc)
    by false e false d h =
        let behind : p.at + p.added ≤ k = ltb-false k (p.at + p.added) d in
        let is : k - p.added + p.removed ≡ j = same_Some (k - p.added + p.removed) j h in
        inr (behind, omega (arith, behind, is))

pub fresh_cases : (p : ItemSplice) (k : ℕ) → old_number p k ≡ None → (p.at ≤ k) × (k < p.at + p.added)
fresh_cases p k h = by (nat_lt k p.at) refl (nat_lt k (p.at + p.added)) refl h
  where
    by : (b : Bool) → nat_lt k p.at ≡ b → (c : Bool) → nat_lt k (p.at + p.added) ≡ c
        → cond b (Some k) (cond c None (Some (k - p.added + p.removed))) ≡ None
        → (p.at ≤ k) × (k < p.at + p.added)
    by true e c d h = absurd (cc)
    by false e true d h = (ltb-false k p.at e, ltb-true k (p.at + p.added) d)
    by false e false d h = absurd (cc)

pub number_front : (p : ItemSplice) (k : ℕ) → k < p.at → old_number p k ≡ Some k
number_front p k lt =
    ap (λ b. cond b (Some k) (cond (nat_lt k (p.at + p.added)) None (Some (k - p.added + p.removed))))
    (lt-ltb k p.at lt)

pub number_rear : (p : ItemSplice) (k : ℕ) → p.at + p.added ≤ k
    → old_number p k ≡ Some (k - p.added + p.removed)
number_rear p k le =
    let front : p.at ≤ k = omega (arith, le) in
    ap (λ b. cond b (Some k) (cond (nat_lt k (p.at + p.added)) None (Some (k - p.added + p.removed))))
    (le-ltb k p.at front)
    ∙ ap (λ b. cond b None (Some (k - p.added + p.removed))) (le-ltb k (p.at + p.added) le)

-- ---- what stands there

-- the edit leaves what a kept item is
pub spliced_kept : {X : Type 0} (old put : List X) (p : ItemSplice) (k j : ℕ) → p.at + p.removed ≤ length old
    → p.added ≡ length put → IsKeptAs p k j
    → slice_get (splice old p.at (p.at + p.removed) put) k ≡ slice_get old j
spliced_kept old put p k j within added (inl h) =
    let long : length (take p.at old) ≡ p.at = length-take-le p.at old (omega (arith, within)) in
    let lt = h.0 in
    get_front (take p.at old) (put ++ drop (p.at + p.removed) old) k (omega (arith, long, lt))
    ∙ get_take p.at old k lt ∙ ap (slice_get old) (sym h.1)
spliced_kept old put p k j within added (inr h) =
    let long : length (take p.at old) ≡ p.at = length-take-le p.at old (omega (arith, within)) in
    let le = h.0 in
    let sum = h.1 in
    let same : p.at + p.removed + (k - length (take p.at old) - length put) ≡ j =
    omega (arith, long, le, sum, added) in
    get_rear (take p.at old) (put ++ drop (p.at + p.removed) old) k (omega (arith, long, le))
    ∙ get_rear put (drop (p.at + p.removed) old) (k - length (take p.at old)) (omega (arith, long, le, added))
    ∙ get_drop (p.at + p.removed) old (k - length (take p.at old) - length put)
    ∙ ap (slice_get old) same

-- a fresh item is one of those that are put in
pub spliced_fresh : {X : Type 0} (old put : List X) (p : ItemSplice) (k : ℕ) → p.at + p.removed ≤ length old
    → p.added ≡ length put → p.at ≤ k → k < p.at + p.added
    → slice_get (splice old p.at (p.at + p.removed) put) k ≡ slice_get put (k - p.at)
spliced_fresh old put p k within added le lt =
    let long : length (take p.at old) ≡ p.at = length-take-le p.at old (omega (arith, within)) in
    get_rear (take p.at old) (put ++ drop (p.at + p.removed) old) k (omega (arith, long, le))
    ∙ get_front put (drop (p.at + p.removed) old) (k - length (take p.at old))
    (omega (arith, long, le, lt, added))
    ∙ ap (λ n. slice_get put (k - n)) long

pub definition_kept : (e : TextEdit) (k j : ℕ) → IsEdit e → old_number e.place k ≡ Some j
    → definition_at (definitions_after e) k ≡ definition_at e.old j
definition_kept e k j is h = ap (option_and_then (λ d. d))
    (spliced_kept e.old e.put e.place k j is.within is.added (kept_cases e.place k j h))

pub definition_fresh : (e : TextEdit) (k : ℕ) → IsEdit e → old_number e.place k ≡ None
    → definition_at (definitions_after e) k ≡ definition_at e.put (k - e.place.at)
definition_fresh e k is h =
    let c = fresh_cases e.place k h in
    ap (option_and_then (λ d. d)) (spliced_fresh e.old e.put e.place k is.within is.added c.0 c.1)

-- what a list has where it has a definition
pub definition_there : (ds : List (Option Definition)) (i : ℕ) (d : Definition) → definition_at ds i ≡ Some d
    → slice_get ds i ≡ Some (Some d)
definition_there ds i d h = by (slice_get ds i) refl
  where
    by : (o : Option (Option Definition)) → slice_get ds i ≡ o → slice_get ds i ≡ Some (Some d)
    by None e = let none : definition_at ds i ≡ None = ap (option_and_then (λ x. x)) e in absurd (cc)
    by (Some None) e = let none : definition_at ds i ≡ None = ap (option_and_then (λ x. x)) e in absurd (cc)
    by (Some (Some x)) e =
        let some : definition_at ds i ≡ Some x = ap (option_and_then (λ x. x)) e in
        e ∙ ap (λ y. Some (Some y)) (same_Some x d (sym some ∙ h))

pub definition_within : (ds : List (Option Definition)) (i : ℕ) (d : Definition) → definition_at ds i ≡ Some d
    → i < length ds
definition_within ds i d h = slice_get_within ds i (Some d) (definition_there ds i d h)

pub defined_at : (ds : List (Option Definition)) (i : ℕ) (d : Definition) → slice_get ds i ≡ Some (Some d)
    → definition_at ds i ≡ Some d
defined_at ds i d h = ap (option_and_then (λ x. x)) h

-- short definitions stay short
pub short_after : (e : TextEdit) → IsEdit e → AreShort (definitions_after e)
short_after e is item d h = by (old_number e.place item) refl
  where
    by : (n : Option ℕ) → old_number e.place item ≡ n → IsShort d
    by None fresh = is.short_put (item - e.place.at) d
        (definition_there e.put (item - e.place.at) d (sym (definition_fresh e item is fresh)
        ∙ defined_at (definitions_after e) item d h))
    by (Some j) kept =
        is.short j d (definition_there e.old j d (sym (definition_kept e item j is kept)
        ∙ defined_at (definitions_after e) item d h))

-- ---- who stood where

abbrev IsPlaced : ItemSplice → ℕ → ℕ → Type 0
IsPlaced p o f = ((f < p.at) × (o ≡ f))
    ⊎ (((p.at ≤ f) × (f < p.at + p.added) × (p.at ≤ o) × (o < p.at + p.removed))
    ⊎ ((p.at + p.added ≤ f) × (o + p.added ≡ f + p.removed)))

former_cases : (p : ItemSplice) (o f : ℕ) → IsFormer p o (old_number p f) → IsPlaced p o f
former_cases p o f h = by (old_number p f) refl h
  where
    kept : (j : ℕ) → o ≡ j → IsKeptAs p f j → IsPlaced p o f
    kept j same (inl c) = inl (c.0, same ∙ c.1)
    kept j same (inr c) = let sum = c.1 in inr (inr (c.0, omega (arith, same, sum)))

    by : (n : Option ℕ) → old_number p f ≡ n → IsFormer p o n → IsPlaced p o f
    by None e h = let c = fresh_cases p f e in inr (inl (c.0, c.1, h.0, h.1))
    by (Some j) e h = kept j h (kept_cases p f j e)

pub former_front : (p : ItemSplice) (k : ℕ) → k < p.at → IsFormer p k (old_number p k)
former_front p k lt = subst (IsFormer p k) (sym (number_front p k lt)) refl

pub former_rear : (p : ItemSplice) (o f : ℕ) → p.at + p.removed ≤ o
    → o + (p.at + p.added) ≡ f + (p.at + p.removed) → IsFormer p o (old_number p f)
former_rear p o f le sum =
    let behind : p.at + p.added ≤ f = omega (arith, le, sum) in
    let same : o ≡ f - p.added + p.removed = omega (arith, behind, sum) in
    subst (IsFormer p o) (sym (number_rear p f behind)) same

-- the two stand in the same order
pub record IsSameOrder (o was f k : ℕ) : Type 0 where
  pub before : o < was → f < k
  pub before' : f < k → o < was
  pub behind : was < o → k < f
  pub behind' : k < f → was < o

order_at : (p : ItemSplice) (o was f k : ℕ) → IsKeptAs p k was → IsPlaced p o f → IsSameOrder o was f k
order_at p o was f k (inl c) (inl x) =
    let a = c.1 in
    let b = x.1 in
    record {
      before = λ l. omega (arith, a, b, l);
      before' = λ l. omega (arith, a, b, l);
      behind = λ l. omega (arith, a, b, l);
      behind' = λ l. omega (arith, a, b, l);
    }
order_at p o was f k (inl c) (inr (inl x)) =
    let a = c.0 in
    let b = c.1 in
    let d = x.0 in
    let h = x.2 in
    record {
      before = λ l. omega (arith, a, b, h, l);
      before' = λ l. omega (arith, a, d, l);
      behind = λ l. omega (arith, a, d, l);
      behind' = λ l. omega (arith, a, b, h, l);
    }
order_at p o was f k (inl c) (inr (inr x)) =
    let a = c.0 in
    let b = c.1 in
    let d = x.0 in
    let h = x.1 in
    record {
      before = λ l. omega (arith, a, b, d, h, l);
      before' = λ l. omega (arith, a, d, l);
      behind = λ l. omega (arith, a, d, l);
      behind' = λ l. omega (arith, a, b, d, h, l);
    }
order_at p o was f k (inr c) (inl x) =
    let a = c.0 in
    let b = c.1 in
    let d = x.0 in
    let h = x.1 in
    record {
      before = λ l. omega (arith, a, d, l);
      before' = λ l. omega (arith, a, b, d, h, l);
      behind = λ l. omega (arith, a, b, d, h, l);
      behind' = λ l. omega (arith, a, d, l);
    }
order_at p o was f k (inr c) (inr (inl x)) =
    let a = c.0 in
    let b = c.1 in
    let d = x.1 in
    let h = x.3 in
    record {
      before = λ l. omega (arith, a, d, l);
      before' = λ l. omega (arith, a, b, h, l);
      behind = λ l. omega (arith, a, b, h, l);
      behind' = λ l. omega (arith, a, d, l);
    }
order_at p o was f k (inr c) (inr (inr x)) =
    let a = c.1 in
    let b = x.1 in
    record {
      before = λ l. omega (arith, a, b, l);
      before' = λ l. omega (arith, a, b, l);
      behind = λ l. omega (arith, a, b, l);
      behind' = λ l. omega (arith, a, b, l);
    }

-- a kept item stands to a declarer as it did
pub same_order : (p : ItemSplice) (o was f k : ℕ) → old_number p k ≡ Some was → IsFormer p o (old_number p f)
    → IsSameOrder o was f k
same_order p o was f k kept former =
    order_at p o was f k (kept_cases p k was kept) (former_cases p o f former)
