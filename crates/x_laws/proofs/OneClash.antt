-- The names of a text that clash are told in one way.
use Rattle.std.proofs.Common.{◌≡◌, ◌<◌, inl, inr, ℕ, suc, Bool, true, false, cond, nat_eq}
use Rattle.std.proofs.Common.{List, [], ◌∷◌, ◌++◌, get_or, length, map, Option, arith, ap, refl, sym, ◌∙◌}
use Rattle.std.specs.List.{filter}
use Rattle.std.specs.List.Sorted.{IsNonDecreasingBy, IsSortedByKey, IsStableByKey, ties}
use Rattle.std.specs.Ordering.{is_lt, nat_cmp}
use Rattle.std.proofs.lemmas.Bool.{cases_order}
use Rattle.std.proofs.lemmas.Bool.Decides.{nat_tests}
use Rattle.std.proofs.lemmas.List.{map-append}
use Rattle.std.proofs.lemmas.List.Sorted.{IsNonDecreasingBy-from_sort}
use Rattle.x_trees.specs.Tree.{Definition}
use Rattle.x_compile.specs.Compile.{Item, definitions_of}
use Rattle.x_taken.specs.TakenNames.{taken_as}
use Rattle.x_taken.specs.declared.taken.TakenAs.{TakenAs}
use Rattle.x_clash.specs.Clashes.{AreClashes, AreInOrder, Thing, clashes_behind, things_of}
use Rattle.x_clash.specs.Views.{Clash, view_clash}
use Rattle.x_clash.specs.declared.clash.Clash as rust
use Rattle.x_warnings.specs.Warnings.{AreWarnings, Spots, Warning, other_of, spots_of, warning_of}

-- ---- lists in one order

same_test : (a b : ℕ) → a ≡ b → nat_eq a b ≡ true
same_test a b e = grind (arith, nat_tests)

other_test : (a b : ℕ) → b < a → nat_eq a b ≡ false
other_test a b lt = grind (arith, nat_tests)

keys_tie : (a b : ℕ) → ties (λ (x y : ℕ). is_lt (nat_cmp x y)) a b ≡ nat_eq b a
keys_tie a b = grind (arith, nat_tests)

module _ {X V : Type 0} (v : X → V) (n : V → ℕ) where
  abbrev key : X → ℕ
  key x = n (v x)

  -- those of a key, as they are seen
  abbrev of_key : ℕ → List X → List V
  of_key k xs = filter (λ a. nat_eq (n a) k) (map v xs)

  step : (x : X) (xs : List X) (k : ℕ) (b : Bool) → nat_eq (key x) k ≡ b
      → of_key k (x ∷ xs) ≡ cond b (v x ∷ of_key k xs) (of_key k xs)
  step x xs k b is = ap (λ c. cond c (v x ∷ of_key k xs) (of_key k xs)) is

  no_such : (k : ℕ) (xs : List X) → ((j : ℕ) (d : X) → j < length xs → k < key (get_or xs j d))
      → of_key k xs ≡ []
  no_such k [] above = refl
  no_such k (x ∷ xs) above =
      let less = above 0 x (omega arith) in
      step x xs k false (other_test (key x) k less)
      ∙ no_such k xs (λ j d lt. above (suc j) d (omega (arith, lt)))

  own : (x : X) (xs : List X) → of_key (key x) (x ∷ xs) ≡ v x ∷ of_key (key x) xs
  own x xs = step x xs (key x) true (same_test (key x) (key x) refl)

  rises : (x : X) (xs : List X) → IsNonDecreasingBy key (x ∷ xs) → IsNonDecreasingBy key xs
  rises x xs h i j d le lt = h (suc i) (suc j) d (omega (arith, le)) (omega (arith, lt))

  above_all : (k : ℕ) (x : X) (xs : List X) → IsNonDecreasingBy key (x ∷ xs) → k < key x
      → (j : ℕ) (d : X) → j < length (x ∷ xs) → k < key (get_or (x ∷ xs) j d)
  above_all k x xs h less j d lt = let le = h 0 j d (omega arith) lt in omega (arith, le, less)

  abbrev head_of : V → List V → V
  head_of d [] = d
  head_of d (a ∷ rest) = a

  abbrev tail_of : List V → List V
  tail_of [] = []
  tail_of (a ∷ rest) = rest

  no_cons : (a : V) (rest : List V) → a ∷ rest ≡ [] → ⊥
  no_cons a rest e = cc

  -- without the first, which are the same
  left : (x y : X) (xs ys : List X) (k : ℕ) → key x ≡ key y → of_key k (x ∷ xs) ≡ of_key k (y ∷ ys)
      → of_key k xs ≡ of_key k ys
  left x y xs ys k is same = go (nat_eq (key x) k) refl
    where
      go : (b : Bool) → nat_eq (key x) k ≡ b → of_key k xs ≡ of_key k ys
      go true e = ap tail_of (sym (step x xs k true e) ∙ same
          ∙ step y ys k true (ap (λ m. nat_eq m k) (sym is) ∙ e))
      go false e =
          sym (step x xs k false e) ∙ same ∙ step y ys k false (ap (λ m. nat_eq m k) (sym is) ∙ e)

  -- lists that rise by a key, and of each key have the same in the same order, are the same
  same_lists : (xs ys : List X) → IsNonDecreasingBy key xs → IsNonDecreasingBy key ys
      → ((x : X) → of_key (key x) xs ≡ of_key (key x) ys) → map v xs ≡ map v ys
  same_lists [] [] h k same = refl
  same_lists [] (y ∷ ys) h k same = absurd (no_cons (v y) _ (sym (own y ys) ∙ sym (same y)))
  same_lists (x ∷ xs) [] h k same = absurd (no_cons (v x) _ (sym (own x xs) ∙ same x))
  same_lists (x ∷ xs) (y ∷ ys) h k same = elim (cases_order (key x) (key y)) [
    | inr (inl less) ↦ absurd (no_cons (v x) _ (sym (own x xs) ∙ same x
        ∙ no_such (key x) (y ∷ ys) (above_all (key x) y ys k less)))
    | inl is ↦
        let first : of_key (key x) (y ∷ ys) ≡ v y ∷ of_key (key x) ys =
        step y ys (key x) true (same_test (key y) (key x) (sym is)) in
        let one : v x ≡ v y = ap (head_of (v x)) (sym (own x xs) ∙ same x ∙ first) in
        let rest = same_lists xs ys (rises x xs h) (rises y ys k)
        (λ z. left x y xs ys (key z) is (same z)) in
        λ i. one i ∷ rest i
    | inr (inr more) ↦ absurd (no_cons (v y) _ (sym (own y ys) ∙ sym (same y)
        ∙ no_such (key y) (x ∷ xs) (above_all (key y) x xs h more)))
  ]

  -- those that tie in a list, and those of a key in what is seen of it
  tied : (x : X) (xs : List X)
      → map v (filter (ties (λ a b. is_lt (nat_cmp (key a) (key b))) x) xs) ≡ of_key (key x) xs
  tied x [] = refl
  tied x (y ∷ ys) = go (tied x ys) (nat_eq (key y) (key x)) refl
    where
      test : X → Bool
      test = ties (λ a b. is_lt (nat_cmp (key a) (key b))) x

      go : map v (filter test ys) ≡ of_key (key x) ys → (b : Bool) → nat_eq (key y) (key x) ≡ b
          → map v (filter test (y ∷ ys)) ≡ of_key (key x) (y ∷ ys)
      go rest true e =
          ap (λ b. map v (cond b (y ∷ filter test ys) (filter test ys))) (keys_tie (key x) (key y) ∙ e)
          ∙ ap (λ l. v y ∷ l) rest ∙ sym (step y ys (key x) true e)
      go rest false e =
          ap (λ b. map v (cond b (y ∷ filter test ys) (filter test ys))) (keys_tie (key x) (key y) ∙ e)
          ∙ rest ∙ sym (step y ys (key x) false e)

  -- lists that are seen alike, sorted by a key so that ties stay in order, are seen alike
  pub one_order : (xs xs' ys ys' : List X) → map v xs ≡ map v ys → IsSortedByKey key nat_cmp xs'
      → IsStableByKey key nat_cmp xs xs' → IsSortedByKey key nat_cmp ys' → IsStableByKey key nat_cmp ys ys'
      → map v xs' ≡ map v ys'
  one_order xs xs' ys ys' alike sorted stable sorted' stable' =
      same_lists xs' ys' (IsNonDecreasingBy-from_sort key xs' sorted)
      (IsNonDecreasingBy-from_sort key ys' sorted')
      (λ x. sym (tied x xs') ∙ ap (map v) (stable x) ∙ tied x xs
      ∙ ap (filter (λ a. nat_eq (n a) (key x))) alike
      ∙ sym (tied x ys) ∙ sym (ap (map v) (stable' x)) ∙ tied x ys')

-- ---- clashes

abbrev word_of : Clash → ℕ
word_of c = c.place.word

one_in_order : (all : List Clash) (found other : List rust.Clash) → AreInOrder all found
    → AreInOrder all other → map view_clash found ≡ map view_clash other
one_in_order all found other h k = one_order view_clash word_of h.unsorted found k.unsorted other
    (h.these ∙ sym k.these) h.sorted h.stable k.sorted k.stable

one_clashes : (taken : List ℕ → Option TakenAs) (item : ℕ) (things : List Thing)
    (ds : List (Option Definition)) (found other : List rust.Clash) → AreClashes taken item things ds found
    → AreClashes taken item things ds other → map view_clash found ≡ map view_clash other
one_clashes taken item things [] found other h k = ap (map view_clash) (h ∙ sym k)
one_clashes taken item things (d ∷ ds) found other h k =
    let here = one_in_order (clashes_behind taken things (things_of item d)) h.0 k.0 h.3 k.3 in
    let rest = one_clashes taken (suc item) (things ++ things_of item d) ds h.1 k.1 h.4 k.4 in
    ap (map view_clash) h.2 ∙ map-append view_clash h.0 h.1 ∙ (λ i. here i ++ rest i)
    ∙ sym (map-append view_clash k.0 k.1) ∙ sym (ap (map view_clash) k.2)

abbrev placed : Spots → Clash → Warning
placed spots c = record { name = c.name; spot = spots c.place; other = other_of spots c.rival }

seen : (spots : Spots) (found : List rust.Clash)
    → map (warning_of spots) found ≡ map (placed spots) (map view_clash found)
seen spots [] = refl
seen spots (c ∷ cs) = ap (λ l. warning_of spots c ∷ l) (seen spots cs)

pub one_warnings : (text : List ℕ) (items : List Item) (ws others : List Warning)
    → AreWarnings text items ws → AreWarnings text items others → ws ≡ others
one_warnings text items ws others h k =
    let spots = spots_of text items in
    h.2 ∙ seen spots h.0
    ∙ ap (map (placed spots)) (one_clashes taken_as 0 [] (definitions_of items) h.0 k.0 h.1 k.1)
    ∙ sym (seen spots k.0) ∙ sym k.2
