-- What is among the elements of a list.
use Rattle.std.proofs.Common.{◌≡◌, zero, suc, ◌⊎◌, inl, inr, List, [], ◌∷◌, ◌++◌, arith, refl, sym, ap}
use Rattle.std.specs.List.{IsAmong}

pub among_first : {X : Type 0} (x : X) (xs : List X) → IsAmong (x ∷ xs) x
among_first x xs = (0, (omega arith, refl))

pub among_same : {X : Type 0} (x y : X) (xs : List X) → x ≡ y → IsAmong (x ∷ xs) y
among_same x y xs e = (0, (omega arith, sym e))

pub among_more : {X : Type 0} (x y : X) (xs : List X) → IsAmong xs y → IsAmong (x ∷ xs) y
among_more x y xs (i, h) = let lt = h.0 in (suc i, (omega (arith, lt), h.1))

-- the first, or among the others
pub among_cases : {X : Type 0} (x y : X) (xs : List X) → IsAmong (x ∷ xs) y → (y ≡ x) ⊎ IsAmong xs y
among_cases x y xs (zero, h) = inl h.1
among_cases x y xs (suc i, h) = let lt = h.0 in inr (i, (omega (arith, lt), h.1))

pub among_none : {X : Type 0} (y : X) → IsAmong [] y → ⊥
among_none y (i, h) = let lt = h.0 in omega (arith, lt)

pub among_front : {X : Type 0} (xs ys : List X) (y : X) → IsAmong xs y → IsAmong (xs ++ ys) y
among_front [] ys y h = absurd (among_none y h)
among_front (x ∷ xs) ys y h = by (among_cases x y xs h) (λ k. among_front xs ys y k)
  where
    by : (y ≡ x) ⊎ IsAmong xs y → (IsAmong xs y → IsAmong (xs ++ ys) y) → IsAmong (x ∷ (xs ++ ys)) y
    by (inl e) more = among_same x y (xs ++ ys) (sym e)
    by (inr k) more = among_more x y (xs ++ ys) (more k)

pub among_rear : {X : Type 0} (xs ys : List X) (y : X) → IsAmong ys y → IsAmong (xs ++ ys) y
among_rear [] ys y h = h
among_rear (x ∷ xs) ys y h = among_more x y (xs ++ ys) (among_rear xs ys y h)

pub among_parts : {X : Type 0} (xs ys : List X) (y : X) → IsAmong (xs ++ ys) y → IsAmong xs y ⊎ IsAmong ys y
among_parts [] ys y h = inr h
among_parts (x ∷ xs) ys y h = by (among_cases x y (xs ++ ys) h) (λ k. among_parts xs ys y k)
  where
    by : (y ≡ x) ⊎ IsAmong (xs ++ ys) y → (IsAmong (xs ++ ys) y → IsAmong xs y ⊎ IsAmong ys y)
        → IsAmong (x ∷ xs) y ⊎ IsAmong ys y
    by (inl e) more = inl (among_same x y xs (sym e))
    by (inr k) more = then (more k)
      where
        then : IsAmong xs y ⊎ IsAmong ys y → IsAmong (x ∷ xs) y ⊎ IsAmong ys y
        then (inl j) = inl (among_more x y xs j)
        then (inr j) = inr j

-- what is among the elements of a list stands between two parts of it
pub record Parted {X : Type 0} (xs : List X) (y : X) : Type 0 where
  pub front : List X
  pub rear : List X
  pub parts : xs ≡ front ++ y ∷ rear

pub among_parted : {X : Type 0} (xs : List X) (y : X) → IsAmong xs y → Parted xs y
among_parted [] y h = absurd (among_none y h)
among_parted (x ∷ xs) y h = by (among_cases x y xs h) (λ k. among_parted xs y k)
  where
    by : (y ≡ x) ⊎ IsAmong xs y → (IsAmong xs y → Parted xs y) → Parted (x ∷ xs) y
    by (inl e) more = record { front = []; rear = xs; parts = ap (λ z. z ∷ xs) (sym e) }
    by (inr k) more =
        let p = more k in record { front = x ∷ p.front; rear = p.rear; parts = ap (λ l. x ∷ l) p.parts }
