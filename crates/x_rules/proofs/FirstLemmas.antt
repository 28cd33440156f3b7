-- The first places of what is looked for in a list.
use Rattle.std.proofs.Common.{◌≡◌, ℕ, zero, suc, ◌+◌, ◌≤◌, Bool, true, false, cond, List, [], ◌∷◌, map, take}
use Rattle.std.proofs.Common.{Option, None, Some, arith, refl, sym, ap, ◌∙◌}
use Rattle.std.specs.Prelude.{nat_lt, is_some, option_map, ◌||◌}
use Rattle.std.specs.List.{list_any}
use Rattle.std.specs.Str.{bytes_eq}
use Rattle.std.proofs.lemmas.Bool.Decides.{nat_tests}
use Rattle.std.proofs.lemmas.Option.{same_Some}
use Rattle.x_rules.specs.FirstPlaces.{first_from, first_place, is_behind}

-- an element more in front
pub first_before : {X : Type 0} (test : X → Bool) (n m : ℕ) (xs : List X) (x : X) (rest : List X)
    (before after : Option ℕ) → m ≡ suc n → xs ≡ x ∷ rest
    → before ≡ first_from test m rest → after ≡ cond (test x) (Some n) before → after ≡ first_from test n xs
first_before test n m xs x rest before after next is h step =
    step ∙ ap (cond (test x) (Some n)) (h ∙ ap (λ k. first_from test k rest) next)
    ∙ sym (ap (first_from test n) is)

-- from one number on, places are one greater
pub shift : {X : Type 0} (test : X → Bool) (n : ℕ) (xs : List X)
    → first_from test (suc n) xs ≡ option_map suc (first_from test n xs)
shift test n [] = refl
shift test n (x ∷ xs) = by (test x) (shift test (suc n) xs)
  where
    by : (b : Bool) → first_from test (suc (suc n)) xs ≡ option_map suc (first_from test (suc n) xs)
        → cond b (Some (suc n)) (first_from test (suc (suc n)) xs)
        ≡ option_map suc (cond b (Some n) (first_from test (suc n) xs))
    by true h = refl
    by false h = h

-- of what elements are seen as
pub first_mapped : {X Y : Type 0} (test : Y → Bool) (f : X → Y) (n : ℕ) (xs : List X)
    → first_from test n (map f xs) ≡ first_from (λ x. test (f x)) n xs
first_mapped test f n [] = refl
first_mapped test f n (x ∷ xs) = ap (cond (test (f x)) (Some n)) (first_mapped test f (suc n) xs)

-- of the names that elements are seen to have
pub first_named : {X Y : Type 0} (name_of : Y → List ℕ) (view : X → Y) (xs : List X) (name : List ℕ)
    → first_from (λ x. bytes_eq name (name_of (view x))) 0 xs ≡ first_place 0 (map name_of (map view xs)) name
first_named name_of view xs name =
    sym (first_mapped (bytes_eq name) name_of 0 (map view xs)
    ∙ first_mapped (λ y. bytes_eq name (name_of y)) view 0 xs)

-- a place is no less than the first one
pub place_from : {X : Type 0} (test : X → Bool) (n : ℕ) (xs : List X) (k : ℕ)
    → first_from test n xs ≡ Some k → n ≤ k
place_from test n [] k h = absurd (cc)
place_from test n (x ∷ xs) k h = by (test x) refl (place_from test (suc n) xs k)
  where
    by : (b : Bool) → test x ≡ b → (first_from test (suc n) xs ≡ Some k → suc n ≤ k) → n ≤ k
    by true e more =
        let same : n ≡ k = same_Some n k (sym (ap (λ b. cond b (Some n) (first_from test (suc n) xs)) e)
        ∙ h) in omega (arith, same)
    by false e more = let le = more (sym (ap (λ b. cond b (Some n) (first_from test (suc n) xs)) e) ∙ h) in
        omega (arith, le)

-- a place is behind the first one where one of those in front passes the test
behind_from : {X : Type 0} (test : X → Bool) (n : ℕ) (xs : List X) (i : ℕ)
    → is_behind (first_from test n xs) (n + i) ≡ list_any test (take i xs)
behind_from test n [] zero = refl
behind_from test n [] (suc i) = refl
behind_from test n (x ∷ xs) zero = by (first_from test n (x ∷ xs)) refl
  where
    by : (o : Option ℕ) → first_from test n (x ∷ xs) ≡ o → is_behind o (n + 0) ≡ false
    by None e = refl
    by (Some k) e = let le = place_from test n (x ∷ xs) k e in grind (arith, nat_tests)
behind_from test n (x ∷ xs) (suc i) = by (test x) (behind_from test (suc n) xs i)
  where
    next : n + suc i ≡ suc n + i
    next = omega arith

    less : nat_lt n (n + suc i) ≡ true
    less = grind (arith, nat_tests)

    by : (b : Bool) → is_behind (first_from test (suc n) xs) (suc n + i) ≡ list_any test (take i xs)
        → is_behind (cond b (Some n) (first_from test (suc n) xs)) (n + suc i)
        ≡ (b || list_any test (take i xs))
    by true more = less
    by false more = ap (is_behind (first_from test (suc n) xs)) next ∙ more

pub behind_first : {X : Type 0} (test : X → Bool) (xs : List X) (i : ℕ)
    → is_behind (first_from test 0 xs) i ≡ list_any test (take i xs)
behind_first test xs i =
    let zero_more : i ≡ 0 + i = omega arith in ap (is_behind (first_from test 0 xs)) zero_more
    ∙ behind_from test 0 xs i

some_any : {X : Type 0} (test : X → Bool) (n : ℕ) (xs : List X)
    → is_some (first_from test n xs) ≡ list_any test xs
some_any test n [] = refl
some_any test n (x ∷ xs) = by (test x) (some_any test (suc n) xs)
  where
    by : (b : Bool) → is_some (first_from test (suc n) xs) ≡ list_any test xs
        → is_some (cond b (Some n) (first_from test (suc n) xs)) ≡ (b || list_any test xs)
    by true h = refl
    by false h = h

-- one of the first elements passes the test where the first that does has its place among them
pub some_behind : {X : Type 0} (test : X → Bool) (xs : List X) (i : ℕ)
    → is_some (first_from test 0 (take i xs)) ≡ is_behind (first_from test 0 xs) i
some_behind test xs i = some_any test 0 (take i xs) ∙ sym (behind_first test xs i)
