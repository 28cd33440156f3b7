-- Names of which no two are the same.
use Rattle.std.proofs.Common.{◌≡◌, ◌⊎◌, inl, inr, ℕ, zero, suc, ◌+◌, ◌<◌, Bool, true, false, cond, List, []}
use Rattle.std.proofs.Common.{◌∷◌, ◌++◌, map, Some, arith, refl, sym, ap, subst, ◌∙◌}
use Rattle.std.specs.Prelude.{◌&&◌, not, slice_get}
use Rattle.std.specs.List.{IsAmong, enumerate_from, filter, list_any}
use Rattle.std.specs.Str.{bytes_eq}
use Rattle.std.proofs.lemmas.Slice.Eq.{bytes_eq-Decides}
use Rattle.x_trees.proofs.AmongLemmas.{among_cases, among_more, among_none, among_parts, among_same}
use Rattle.x_prelude.specs.Lacking.{Occurrence, first_of_each, name_of}
use Rattle.x_prelude_laws.proofs.Lacks.{any_in, at_index, filter_in}
use Rattle.x_prelude_laws.proofs.Named.{among_map}

abbrev pub Distinct : List (List ℕ) → Type 0
Distinct [] = Unit {0}
Distinct (n ∷ ns) = (IsAmong ns n → ⊥) × Distinct ns

pub distinct_both : (ns ms : List (List ℕ)) → Distinct ns → Distinct ms
    → ((n : List ℕ) → IsAmong ns n → IsAmong ms n → ⊥) → Distinct (ns ++ ms)
distinct_both [] ms h k apart = k
distinct_both (n ∷ ns) ms h k apart = (
  λ j. by (among_parts ns ms n j),
  distinct_both ns ms h.1 k (λ m x y. apart m (among_more n m ns x) y),
)
  where
    by : IsAmong ns n ⊎ IsAmong ms n → ⊥
    by (inl x) = h.0 x
    by (inr y) = apart n (among_same n n ns refl) y

-- two places have two names
pub distinct_at : (ns : List (List ℕ)) (i j : ℕ) (n m : List ℕ) → Distinct ns → slice_get ns i ≡ Some n
    → slice_get ns j ≡ Some m → i < j → n ≡ m → ⊥
distinct_at [] i j n m h e f lt same = absurd (cc)
distinct_at (x ∷ ns) i zero n m h e f lt same = omega (arith, lt)
distinct_at (x ∷ ns) zero (suc j) n m h e f lt same =
    let own : x ≡ m = (let first : x ≡ n = cc in first) ∙ same in
    h.0 (subst (IsAmong ns) (sym own) (at_index ns j m f))
distinct_at (x ∷ ns) (suc i) (suc j) n m h e f lt same = distinct_at ns i j n m h.1 e f
    (omega (arith, lt)) same

-- ---- by a test

abbrev pub are_distinct : List (List ℕ) → Bool
are_distinct [] = true
are_distinct (n ∷ ns) = not (list_any (bytes_eq n) ns) && are_distinct ns

pub distinct_by_test : (ns : List (List ℕ)) → are_distinct ns ≡ true → Distinct ns
distinct_by_test [] e = tt
distinct_by_test (n ∷ ns) e = by (list_any (bytes_eq n) ns) (are_distinct ns) refl refl e
    (λ f. distinct_by_test ns f)
  where
    by : (x y : Bool) → list_any (bytes_eq n) ns ≡ x → are_distinct ns ≡ y → (not x && y) ≡ true
        → (are_distinct ns ≡ true → Distinct ns) → Distinct (n ∷ ns)
    by true y f g h next = absurd (cc)
    by false false f g h next = absurd (cc)
    by false true f g h next = (
      λ j. let some : list_any (bytes_eq n) ns ≡ true = any_in (bytes_eq n) ns n j
          ((bytes_eq-Decides n n).1 refl) in absurd (cc),
      next g,
    )

-- ---- the first of each name

-- a name of these
pub record HasName {X : Type 0} (name : X → List ℕ) (xs : List X) (n : List ℕ) : Type 0 where
  pub one : X
  pub among : IsAmong xs one
  pub named : name one ≡ n

pub name_among : {X : Type 0} (name : X → List ℕ) (xs : List X) (n : List ℕ) → IsAmong (map name xs) n
    → HasName name xs n
name_among name [] n h = absurd (among_none n h)
name_among {X} name (x ∷ xs) n h = by (among_cases (name x) n (map name xs) h) (λ k. name_among name xs n k)
  where
    by : (n ≡ name x) ⊎ IsAmong (map name xs) n → (IsAmong (map name xs) n → HasName name xs n)
        → HasName name (x ∷ xs) n
    by (inl e) next = record { one = x; among = among_same x x xs refl; named = sym e }
    by (inr k) next =
        let rest = next k in
        record { one = rest.one; among = among_more x rest.one xs rest.among; named = rest.named }

filter_distinct : {X : Type 0} (name : X → List ℕ) (p : X → Bool) (xs : List X) → Distinct (map name xs)
    → Distinct (map name (filter p xs))
filter_distinct name p [] h = tt
filter_distinct {X} name p (x ∷ xs) h = by (p x) (filter_distinct name p xs h.1)
  where
    gone : IsAmong (map name (filter p xs)) (name x) → ⊥
    gone j =
        let y = name_among name (filter p xs) (name x) j in
        let in_all = (filter_in p xs y.one y.among).0 in
        h.0 (subst (IsAmong (map name xs)) y.named (among_map name xs y.one in_all))

    by : (b : Bool) → Distinct (map name (filter p xs)) → Distinct
        (map name (cond b (x ∷ filter p xs) (filter p xs)))
    by true rest = (gone, rest)
    by false rest = rest

pub first_distinct : (os : List Occurrence) → Distinct (map name_of (first_of_each os))
first_distinct [] = tt
first_distinct (o ∷ os) = (
  λ j.
      let y = name_among name_of (filter other (first_of_each os)) (name_of o) j in
      let kept : other y.one ≡ true = (filter_in other (first_of_each os) y.one y.among).1 in
      let same : bytes_eq (name_of y.one) (name_of o) ≡ true =
      (bytes_eq-Decides (name_of y.one) (name_of o)).1 y.named in
      absurd (let gone : other y.one ≡ false = ap not same in cc),
  filter_distinct name_of other (first_of_each os) (first_distinct os),
)
  where
    other : Occurrence → Bool
    other y = not (bytes_eq (name_of y) (name_of o))

-- numbered ones have the same names
pub numbered_names : (n : ℕ) (os : List Occurrence) → map (λ (e : ℕ × Occurrence). name_of e.1)
    (enumerate_from n os)
    ≡ map name_of os
numbered_names n [] = refl
numbered_names n (o ∷ os) = ap (λ l. name_of o ∷ l) (numbered_names (n + 1) os)
