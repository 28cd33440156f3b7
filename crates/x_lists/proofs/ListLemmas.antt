-- Lists element by element.
use Rattle.std.specs.Prelude.{slice_get}
use Rattle.std.specs.List.{flat_map}
use Rattle.std.proofs.Common.{◌≡◌, ℕ, Some, map, zero, suc, ◌+◌, ◌<◌, ◌≤◌, take, drop, get_or, length, arith}
use Rattle.std.proofs.Common.{List, [], ◌∷◌, ◌++◌, refl, sym, ap, ◌∙◌, append_assoc, append-nil}

-- an element and what stands behind it
at_one : {X : Type 0} (xs : List X) (i : ℕ) (d : X) → i < length xs
    → drop i xs ≡ get_or xs i d ∷ drop (suc i) xs
at_one [] i d h = absurd (omega (arith, h))
at_one (x ∷ xs) zero d h = refl
at_one (x ∷ xs) (suc i) d h = at_one xs i d (omega (arith, h))

pub drop_one : {X : Type 0} (xs : List X) (i : ℕ) (d : X) → i < length xs
    → drop i xs ≡ get_or xs i d ∷ drop (i + 1) xs
drop_one xs i d h =
    let next : suc i ≡ i + 1 = omega arith in at_one xs i d h ∙ ap (λ n. get_or xs i d ∷ drop n xs) next

pub drop_none : {X : Type 0} (xs : List X) (i : ℕ) → length xs ≤ i → drop i xs ≡ []
drop_none [] zero h = refl
drop_none [] (suc i) h = refl
drop_none (x ∷ xs) zero h = absurd (omega (arith, h))
drop_none (x ∷ xs) (suc i) h = drop_none xs i (omega (arith, h))

-- what a list has in a place
pub get_at : {X : Type 0} (xs : List X) (i : ℕ) (x : X) (rest : List X) → drop i xs ≡ x ∷ rest
    → slice_get xs i ≡ Some x
get_at [] zero x rest h = absurd (cc)
get_at [] (suc i) x rest h = absurd (cc)
get_at (y ∷ ys) zero x rest h = let same : y ≡ x = cc in ap Some same
get_at (y ∷ ys) (suc i) x rest h = get_at ys i x rest h

pub get_mapped : {X Y : Type 0} (f : X → Y) (xs : List X) (i : ℕ) (x : X) (rest : List X)
    → drop i xs ≡ x ∷ rest → slice_get (map f xs) i ≡ Some (f x)
get_mapped f [] zero x rest h = absurd (cc)
get_mapped f [] (suc i) x rest h = absurd (cc)
get_mapped f (y ∷ ys) zero x rest h = let same : y ≡ x = cc in ap (λ z. Some (f z)) same
get_mapped f (y ∷ ys) (suc i) x rest h = get_mapped f ys i x rest h

-- behind an element stand the others
pub drop_next : {X : Type 0} (xs : List X) (i : ℕ) (x : X) (rest : List X) → drop i xs ≡ x ∷ rest
    → drop (suc i) xs ≡ rest
drop_next [] zero x rest h = absurd (cc)
drop_next [] (suc i) x rest h = absurd (cc)
drop_next (y ∷ ys) zero x rest h = cc
drop_next (y ∷ ys) (suc i) x rest h = drop_next ys i x rest h

-- what stands in a place that a list has
pub some_at : {X : Type 0} (xs : List X) (i : ℕ) → i < length xs → (x : X) × (drop i xs ≡ x ∷ drop (suc i) xs)
some_at [] i lt = absurd (omega (arith, lt))
some_at (x ∷ xs) zero lt = (x, refl)
some_at (x ∷ xs) (suc i) lt = some_at xs i (omega (arith, lt))

pub take_next : {X : Type 0} (xs : List X) (i : ℕ) (x : X) (rest : List X) → drop i xs ≡ x ∷ rest
    → take (suc i) xs ≡ take i xs ++ x ∷ []
take_next [] zero x rest h = absurd (cc)
take_next [] (suc i) x rest h = absurd (cc)
take_next (y ∷ ys) zero x rest h = let same : y ≡ x = cc in ap (λ z. z ∷ []) same
take_next (y ∷ ys) (suc i) x rest h = ap (λ l. y ∷ l) (take_next ys i x rest h)

pub map_append : {X Y : Type 0} (f : X → Y) (xs ys : List X) → map f (xs ++ ys) ≡ map f xs ++ map f ys
map_append f [] ys = refl
map_append f (x ∷ xs) ys = ap (λ l. f x ∷ l) (map_append f xs ys)

-- what is written element by element
pub listed_more : {X Y : Type 0} (f : X → List Y) (now next : List Y) (xs : List X) (x : X) (rest : List X)
    (all : List Y)
    → xs ≡ x ∷ rest → next ≡ now ++ f x → now ++ flat_map f xs ≡ all → next ++ flat_map f rest ≡ all
listed_more f now next xs x rest all is step h =
    ap (λ l. l ++ flat_map f rest) step ∙ append_assoc now (f x) (flat_map f rest)
    ∙ sym (ap (λ l. now ++ flat_map f l) is) ∙ h

pub listed_all : {X Y : Type 0} (f : X → List Y) (now : List Y) (xs : List X) (all : List Y) → xs ≡ []
    → now ++ flat_map f xs ≡ all → now ≡ all
listed_all f now xs all none h = sym (append-nil now) ∙ sym (ap (λ l. now ++ flat_map f l) none) ∙ h

-- the last of a front of a list, and what stands before it and behind it
pub before_last : {X : Type 0} (all front : List X) (x : X)
    → front ++ x ∷ [] ≡ take (length (front ++ x ∷ [])) all
    → (front ≡ take (length front) all) × (drop (length front) all ≡ x ∷ drop (length (front ++ x ∷ [])) all)
before_last [] [] x h = absurd (cc)
before_last (y ∷ ys) [] x h = let same : x ≡ y = cc in (refl, ap (λ z. z ∷ ys) (sym same))
before_last [] (f ∷ front) x h = absurd (cc)
before_last (y ∷ ys) (f ∷ front) x h =
    let same : f ≡ y = cc in
    let rest : front ++ x ∷ [] ≡ take (length (front ++ x ∷ [])) ys = cc in
    let more = before_last ys front x rest in
    (ap (λ z. z ∷ front) same ∙ ap (λ l. y ∷ l) more.0, more.1)

pub get_drop : {X : Type 0} (n : ℕ) (xs : List X) (i : ℕ) → slice_get (drop n xs) i ≡ slice_get xs (n + i)
get_drop zero xs i = let e : i ≡ 0 + i = omega arith in ap (λ n. slice_get xs n) e
get_drop (suc n) [] i = refl
get_drop (suc n) (x ∷ xs) i =
    let e : suc (n + i) ≡ suc n + i = omega arith in get_drop n xs i ∙ ap (λ k. slice_get (x ∷ xs) k) e
