-- What holds of each element that a loop has gone over.
use Rattle.std.specs.Prelude.{slice_get}
use Rattle.std.specs.List.{IsAmong}
use Rattle.std.proofs.Common.{◌≡◌, ◌<◌, ◌≤◌, ◌⊎◌, inl, inr, ℕ, suc, ◌+◌, List, [], ◌∷◌, ◌++◌, map, take, drop}
use Rattle.std.proofs.Common.{length, get_or, Some, refl, sym, ap, subst, ◌∙◌, arith}
use Rattle.std.proofs.lemmas.Bool.{cases_lt}
use Rattle.std.proofs.lemmas.List.{take_all}
use Rattle.std.proofs.lemmas.Option.{get_or_from_slice_get, slice_get-get_or, slice_get_within}
use Rattle.x_lists.proofs.ListLemmas.{drop_one, take_next}
use Rattle.x_trees.proofs.AmongLemmas.{among_cases, among_none, among_parts, among_same, among_more}

among_last : {X : Type 0} (xs : List X) (x y : X) → IsAmong (xs ++ x ∷ []) y → IsAmong xs y ⊎ (y ≡ x)
among_last xs x y h = by (among_parts xs (x ∷ []) y h)
  where
    last : (y ≡ x) ⊎ IsAmong [] y → IsAmong xs y ⊎ (y ≡ x)
    last (inl e) = inr e
    last (inr k) = absurd (among_none y k)

    by : IsAmong xs y ⊎ IsAmong (x ∷ []) y → IsAmong xs y ⊎ (y ≡ x)
    by (inl k) = inl k
    by (inr k) = last (among_cases x y [] k)

-- the front of a list with one element more
pub take_more : {X : Type 0} (xs : List X) (index : ℕ) (x : X) → index < length xs → x ≡ get_or xs index x
    → take (index + 1) xs ≡ take index xs ++ x ∷ []
take_more xs index x lt at =
    let next : index + 1 ≡ suc index = omega arith in
    ap (λ n. take n xs) next ∙ take_next xs index x (drop (index + 1) xs) (drop_one xs index x lt
    ∙ ap (λ y. y ∷ drop (index + 1) xs) (sym at))

pub each_next : {X : Type 0} (P Q : X → Type 0) (xs : List X) (index : ℕ) (x : X) → index < length xs
    → x ≡ get_or xs index x
    → ((y : X) → P y → Q y) → ((y : X) → IsAmong (take index xs) y → P y) → Q x → (y : X)
    → IsAmong (take (index + 1) xs) y → Q y
each_next P Q xs index x lt at more so here y h =
    by (among_last (take index xs) x y (subst (λ l. IsAmong l y) (take_more xs index x lt at) h))
  where
    by : IsAmong (take index xs) y ⊎ (y ≡ x) → Q y
    by (inl k) = more y (so y k)
    by (inr e) = subst Q (sym e) here

pub each_all : {X : Type 0} (P : X → Type 0) (xs : List X) (index : ℕ) → length xs ≤ index
    → ((y : X) → IsAmong (take index xs) y → P y) → (y : X) → IsAmong xs y → P y
each_all P xs index end so y h = so y (subst (λ l. IsAmong l y) (sym (take_all index xs end)) h)

-- an element that is read with any other one in its place
pub read_at : {X : Type 0} (xs : List X) (index : ℕ) (d : X) → index < length xs
    → get_or xs index d ≡ get_or xs index (get_or xs index d)
read_at xs index d lt =
    sym (get_or_from_slice_get xs index (get_or xs index d) (get_or xs index d)
    (slice_get-get_or xs index d lt))

-- what is among the values of a function
pub among_map : {X Y : Type 0} (f : X → Y) (xs : List X) (y : Y) → IsAmong (map f xs) y
    → (x : X) × IsAmong xs x × (y ≡ f x)
among_map f [] y h = absurd (among_none y h)
among_map f (x ∷ xs) y h = by (among_cases (f x) y (map f xs) h) (λ k. among_map f xs y k)
  where
    by : (y ≡ f x) ⊎ IsAmong (map f xs) y → (IsAmong (map f xs) y → (z : _) × IsAmong xs z × (y ≡ f z))
        → (z : _) × IsAmong (x ∷ xs) z × (y ≡ f z)
    by (inl e) more = (x, among_same x x xs refl, e)
    by (inr k) more = let r = more k in (r.0, among_more x r.0 xs r.1, r.2)

pub map_among : {X Y : Type 0} (f : X → Y) (xs : List X) (x : X) → IsAmong xs x → IsAmong (map f xs) (f x)
map_among f [] x h = absurd (among_none x h)
map_among f (z ∷ xs) x h = by (among_cases z x xs h) (λ k. map_among f xs x k)
  where
    by : (x ≡ z) ⊎ IsAmong xs x → (IsAmong xs x → IsAmong (map f xs) (f x)) → IsAmong (f z ∷ map f xs) (f x)
    by (inl e) more = among_same (f z) (f x) (map f xs) (ap f (sym e))
    by (inr k) more = among_more (f z) (f x) (map f xs) (more k)

pub each_mapped : {X Y : Type 0} (P : Y → Type 0) (f : X → Y) (xs : List X)
    → ((x : X) → IsAmong xs x → P (f x)) → (y : Y) → IsAmong (map f xs) y → P y
each_mapped P f xs h y k = let r = among_map f xs y k in subst P (sym r.2) (h r.0 r.1)

-- ---- by place

pub each_place_next : {X : Type 0} (P Q : ℕ → X → Type 0) (xs : List X) (index : ℕ) (x : X)
    → index < length xs → x ≡ get_or xs index x → ((i : ℕ) (y : X) → P i y → Q i y)
    → ((i : ℕ) (y : X) → i < index → slice_get xs i ≡ Some y → P i y) → Q index x → (i : ℕ) (y : X)
    → i < index + 1 → slice_get xs i ≡ Some y → Q i y
each_place_next P Q xs index x lt at more so here i y below there = by (cases_lt i index)
  where
    by : (i < index) ⊎ (index ≤ i) → Q i y
    by (inl l) = more i y (so i y l there)
    by (inr l) =
        let same : index ≡ i = omega (arith, l, below) in
        let one : x ≡ y = at ∙ get_or_from_slice_get xs index y x (ap (slice_get xs) same ∙ there) in
        subst (λ k. Q k y) same (subst (Q index) one here)

pub each_place_all : {X : Type 0} (P : ℕ → X → Type 0) (xs : List X) (index : ℕ) → length xs ≤ index
    → ((i : ℕ) (y : X) → i < index → slice_get xs i ≡ Some y → P i y)
    → (i : ℕ) (y : X) → slice_get xs i ≡ Some y → P i y
each_place_all P xs index end so i y there =
    let lt = slice_get_within xs i y there in so i y (omega (arith, end, lt)) there
