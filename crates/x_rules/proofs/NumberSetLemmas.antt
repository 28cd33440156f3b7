-- Sets of numbers.
use Rattle.std.specs.Prelude.{ℤ}
use Rattle.std.proofs.Common.{◌≡◌, ℕ, zero, suc, ◌+◌, ◌<◌, ◌≤◌, length, get_or, Result, Ok, Err, ◌⊎◌, inl}
use Rattle.std.proofs.Common.{inr, Bool, true, false, cond, List, [], ◌∷◌, arith, refl, sym, subst}
use Rattle.std.proofs.lemmas.Int.{ints}
use Rattle.std.proofs.lemmas.Bool.{cases_lt}
use Rattle.std.proofs.lemmas.Bool.Decides.{Decides-int_eq}
use Rattle.std.proofs.lemmas.Cmp.{int_cmp_total, int_eq_equiv}
use Rattle.std.proofs.lemmas.List.Elements.{All-from_all_within}
use Rattle.std.proofs.lemmas.List.Folds.{list_any_at, list_any_none}
use Rattle.std.proofs.lemmas.List.Kept.{IsStrictlySortedBy-dedup, Contains-dedup, Contains-from_dedup}
use Rattle.std.proofs.lemmas.List.Sorted.{searchable_from_sorted, Contains-permutation, IsPermutation-sym}
use Rattle.std.specs.List.{IsAmong, list_any, dedup}
use Rattle.std.specs.List.Sorted.{IsStrictlySortedBy, IsSorted, IsPermutation, IsBinarySearchResult}
use Rattle.std.specs.List.Sorted.{IsPartitionPoint, IsSearchInRange}
use Rattle.std.specs.Ordering.{int_cmp, int_eq, is_lt}
use Rattle.std.specs.Result.{is_ok}
use Rattle.std.specs.declared.cmp.Ordering.TheVariants.{Less, Equal, Greater}
use lib.Signed.{lt_z}
use Rattle.x_rules.specs.NumberSets.{AreAscending}
use Rattle.x_rules.specs.Types.{put_number, number_set}
use Rattle.x_trees.proofs.AmongLemmas.{among_first, among_same, among_more, among_cases, among_none}
use Rattle.x_rules.proofs.InOrder.{AreInOrder, one_order}
use Rattle.x_rules.proofs.OrderLemmas.{among_contains, contains_among}

-- ---- the order of numbers

abbrev pub IsBelow : ℤ → ℤ → Type 0
IsBelow x y = lt_z x y ≡ true

below_trans : (x y z : ℤ) → IsBelow x y → IsBelow y z → IsBelow x z
below_trans x y z h k = grind (arith, ints)

not_both : (x y : ℤ) → IsBelow x y → IsBelow y x → ⊥
not_both x y h k = grind (arith, ints)

neither : (x y : ℤ) → lt_z x y ≡ false → lt_z y x ≡ false → x ≡ y
neither x y h k = grind (arith, ints)

below_cmp : (x y : ℤ) → int_cmp x y ≡ Less → IsBelow x y
below_cmp x y h = grind (arith, ints)

-- the first is below all others
first_below : (x : ℤ) (xs : List ℤ) → AreAscending (x ∷ xs) → (y : ℤ) → IsAmong xs y → IsBelow x y
first_below x [] h y k = absurd (among_none y k)
first_below x (z ∷ rest) h y k = by (among_cases z y rest k) (first_below z rest h.1 y)
  where
    by : (y ≡ z) ⊎ IsAmong rest y → (IsAmong rest y → IsBelow z y) → IsBelow x y
    by (inl e) more = subst (IsBelow x) (sym e) h.0
    by (inr j) more = below_trans x z y h.0 (more j)

pub ascending_in_order : (xs : List ℤ) → AreAscending xs → AreInOrder IsBelow xs
ascending_in_order [] h = tt
ascending_in_order (x ∷ []) h = (λ y k. absurd (among_none y k), tt)
ascending_in_order (x ∷ z ∷ rest) h = (first_below x (z ∷ rest) h, ascending_in_order (z ∷ rest) h.1)

pub strict_ascending : (xs : List ℤ) → IsStrictlySortedBy int_cmp xs → AreAscending xs
unfolding IsStrictlySortedBy
strict_ascending [] h = tt
strict_ascending (x ∷ []) h = tt
strict_ascending (x ∷ y ∷ rest) h = (below_cmp x y h.0.0, strict_ascending (y ∷ rest) h.1)

-- ---- numbers put in order

-- what is put in, or was there
put_from : (z : ℤ) (xs : List ℤ) (w : ℤ) → IsAmong (put_number z xs) w → (w ≡ z) ⊎ IsAmong xs w
put_from z [] w h = among_cases z w [] h
put_from z (x ∷ xs) w h = by (lt_z z x) (lt_z x z) h (put_from z xs w)
  where
    by : (a b : Bool) → IsAmong (cond a (z ∷ x ∷ xs) (cond b (x ∷ put_number z xs) (x ∷ xs))) w
        → (IsAmong (put_number z xs) w → (w ≡ z) ⊎ IsAmong xs w) → (w ≡ z) ⊎ IsAmong (x ∷ xs) w
    by true b k more = among_cases z w (x ∷ xs) k
    by false true k more = then (among_cases x w (put_number z xs) k)
      where
        behind : (w ≡ z) ⊎ IsAmong xs w → (w ≡ z) ⊎ IsAmong (x ∷ xs) w
        behind (inl e) = inl e
        behind (inr j) = inr (among_more x w xs j)

        then : (w ≡ x) ⊎ IsAmong (put_number z xs) w → (w ≡ z) ⊎ IsAmong (x ∷ xs) w
        then (inl e) = inr (among_same x w xs (sym e))
        then (inr j) = behind (more j)
    by false false k more = inr k

put_kept : (z : ℤ) (xs : List ℤ) (w : ℤ) → IsAmong xs w → IsAmong (put_number z xs) w
put_kept z [] w h = absurd (among_none w h)
put_kept z (x ∷ xs) w h = by (lt_z z x) (lt_z x z) (among_cases x w xs h) (put_kept z xs w)
  where
    by : (a b : Bool) → (w ≡ x) ⊎ IsAmong xs w → (IsAmong xs w → IsAmong (put_number z xs) w)
        → IsAmong (cond a (z ∷ x ∷ xs) (cond b (x ∷ put_number z xs) (x ∷ xs))) w
    by true b k more = among_more z w (x ∷ xs) h
    by false true (inl e) more = among_same x w (put_number z xs) (sym e)
    by false true (inr j) more = among_more x w (put_number z xs) (more j)
    by false false k more = h

put_there : (z : ℤ) (xs : List ℤ) → IsAmong (put_number z xs) z
put_there z [] = among_first z []
put_there z (x ∷ xs) = by (lt_z z x) refl (lt_z x z) refl (put_there z xs)
  where
    by : (a : Bool) → lt_z z x ≡ a → (b : Bool) → lt_z x z ≡ b → IsAmong (put_number z xs) z
        → IsAmong (cond a (z ∷ x ∷ xs) (cond b (x ∷ put_number z xs) (x ∷ xs))) z
    by true e b f more = among_first z (x ∷ xs)
    by false e true f more = among_more x z (put_number z xs) more
    by false e false f more = among_same x z xs (sym (neither z x e f))

put_in_order : (z : ℤ) (xs : List ℤ) → AreInOrder IsBelow xs → AreInOrder IsBelow (put_number z xs)
put_in_order z [] h = (λ y k. absurd (among_none y k), tt)
put_in_order z (x ∷ xs) h = by (lt_z z x) refl (lt_z x z) refl (put_in_order z xs h.1)
  where
    by : (a : Bool) → lt_z z x ≡ a → (b : Bool) → lt_z x z ≡ b → AreInOrder IsBelow (put_number z xs)
        → AreInOrder IsBelow (cond a (z ∷ x ∷ xs) (cond b (x ∷ put_number z xs) (x ∷ xs)))
    by true e b f more = (λ y k. here y (among_cases x y xs k), h)
      where
        here : (y : ℤ) → (y ≡ x) ⊎ IsAmong xs y → IsBelow z y
        here y (inl g) = subst (IsBelow z) (sym g) e
        here y (inr j) = below_trans z x y e (h.0 y j)
    by false e true f more = (λ y k. here y (put_from z xs y k), more)
      where
        here : (y : ℤ) → (y ≡ z) ⊎ IsAmong xs y → IsBelow x y
        here y (inl g) = subst (IsBelow x) (sym g) f
        here y (inr j) = h.0 y j
    by false e false f more = h

set_in_order : (zs : List ℤ) → AreInOrder IsBelow (number_set zs)
set_in_order [] = tt
set_in_order (z ∷ zs) = put_in_order z (number_set zs) (set_in_order zs)

set_from : (zs : List ℤ) (w : ℤ) → IsAmong (number_set zs) w → IsAmong zs w
set_from [] w h = h
set_from (z ∷ zs) w h = by (put_from z (number_set zs) w h) (set_from zs w)
  where
    by : (w ≡ z) ⊎ IsAmong (number_set zs) w → (IsAmong (number_set zs) w → IsAmong zs w) → IsAmong (z ∷ zs) w
    by (inl e) more = among_same z w zs (sym e)
    by (inr j) more = among_more z w zs (more j)

set_kept : (zs : List ℤ) (w : ℤ) → IsAmong zs w → IsAmong (number_set zs) w
set_kept [] w h = h
set_kept (z ∷ zs) w h = by (among_cases z w zs h) (set_kept zs w)
  where
    by : (w ≡ z) ⊎ IsAmong zs w → (IsAmong zs w → IsAmong (number_set zs) w)
        → IsAmong (put_number z (number_set zs)) w
    by (inl e) more = subst (IsAmong (put_number z (number_set zs))) (sym e) (put_there z (number_set zs))
    by (inr j) more = put_kept z (number_set zs) w (more j)

-- numbers that ascend and are those of a list are its set
pub is_set : (xs zs : List ℤ) → AreAscending xs → ((w : ℤ) → IsAmong xs w → IsAmong zs w)
    → ((w : ℤ) → IsAmong zs w → IsAmong xs w) → xs ≡ number_set zs
is_set xs zs up from kept =
    one_order IsBelow not_both xs (number_set zs) (ascending_in_order xs up) (set_in_order zs)
    (λ w h. set_kept zs w (from w h)) (λ w h. kept w (set_from zs w h))

-- ---- a number looked up

rising : (xs : List ℤ) → AreAscending xs → (k : ℕ) (d : ℤ) → suc k < length xs
    → IsBelow (get_or xs k d) (get_or xs (suc k) d)
rising [] h k d lt = absurd (omega (arith, lt))
rising (x ∷ []) h k d lt = absurd (omega (arith, lt))
rising (x ∷ y ∷ rest) h zero d lt = h.0
rising (x ∷ y ∷ rest) h (suc k) d lt = rising (y ∷ rest) h.1 k d (omega (arith, lt))

not_above : (x y : ℤ) → IsBelow x y → is_lt (int_cmp y x) ≡ false
not_above x y h = grind (arith, ints)

pub ascending_sorted : (xs : List ℤ) → AreAscending xs → IsSorted int_cmp xs
ascending_sorted xs up k d from lt =
    let next : k + 1 ≡ suc k = omega arith in
    subst (λ j. is_lt (int_cmp (get_or xs j d) (get_or xs k d)) ≡ false) (sym next)
    (not_above (get_or xs k d) (get_or xs (suc k) d) (rising xs up k d (omega (arith, lt))))

same_number : (x y : ℤ) → int_cmp y x ≡ Equal → int_eq x y ≡ true
same_number x y h = grind (arith, ints)

less_number : (x y : ℤ) → int_cmp y x ≡ Less → int_eq x y ≡ false
less_number x y h = grind (arith, ints)

greater_number : (x y : ℤ) → int_cmp y x ≡ Greater → int_eq x y ≡ false
greater_number x y h = grind (arith, ints)

-- a search finds a number just where it is among those that ascend
pub found_number : (number : ℤ) (xs : List ℤ) (r : Result ℕ ℕ) → AreAscending xs
    → IsSearchInRange r (length xs) → IsBinarySearchResult (λ y. int_cmp y number) xs r
    → is_ok r ≡ list_any (int_eq number) xs
found_number number xs (Ok i) up lt h =
    sym (list_any_at (int_eq number) xs i number lt (same_number number (get_or xs i number) (h number)))
found_number number xs (Err i) up le h =
    sym (list_any_none (int_eq number) xs
    (All-from_all_within (λ y. int_eq number y ≡ false) xs (λ k d from lt. by k d lt (cases_lt k i))))
  where
    point : IsPartitionPoint (λ y. int_cmp y number ≡ Less) (λ y. int_cmp y number ≡ Greater) xs i
    point = h (searchable_from_sorted int_cmp_total (λ y. y) xs number (ascending_sorted xs up))

    by : (k : ℕ) (d : ℤ) → k < length xs → (k < i) ⊎ (i ≤ k) → int_eq number (get_or xs k d) ≡ false
    by k d lt (inl before) = less_number number (get_or xs k d) (point.0 k d (omega arith) before)
    by k d lt (inr behind) = greater_number number (get_or xs k d) (point.1 k d behind lt)

-- ---- numbers that are sorted, and of which each is left once

pub sorted_ascends : (sorted : List ℤ) → IsSorted int_cmp sorted → AreAscending (dedup int_eq sorted)
sorted_ascends sorted up =
    strict_ascending (dedup int_eq sorted) (IsStrictlySortedBy-dedup int_cmp_total (λ x y. refl) sorted up)

pub sorted_is_set : (zs sorted : List ℤ) → IsPermutation zs sorted → IsSorted int_cmp sorted
    → dedup int_eq sorted ≡ number_set zs
sorted_is_set zs sorted moved up =
    is_set (dedup int_eq sorted) zs (sorted_ascends sorted up)
    (λ w h. contains_among zs w (Contains-permutation sorted zs w (IsPermutation-sym zs sorted moved)
    (Contains-from_dedup int_eq sorted w (among_contains (dedup int_eq sorted) w h))))
    (λ w h. contains_among (dedup int_eq sorted) w
    (Contains-dedup int_eq_equiv (λ x y e. (Decides-int_eq x y).0 e) sorted w
    (Contains-permutation zs sorted w moved (among_contains zs w h))))
