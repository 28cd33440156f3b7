-- The first declarers of two lists of definitions, one behind the other.
use Rattle.std.proofs.Common.{◌≡◌, ◌<◌, ℕ, zero, suc, ◌+◌, Bool, true, false, cond, List, [], ◌∷◌, ◌++◌}
use Rattle.std.proofs.Common.{length, Option, Some, None, arith, refl, ap, ◌∙◌}
use Rattle.std.specs.Prelude.{option_map, slice_get}
use Rattle.std.specs.Option.{option_or}
use Rattle.std.specs.Str.{bytes_eq}
use Rattle.x_trees.specs.Tree.{Definition}
use Rattle.x_trees.specs.Names.{Declared, declared}
use Rattle.x_names.specs.Declarers.{declarer_at, declarer_in, first_from, is_beforehand, place_of_name}
use Rattle.x_names.specs.declared.names.Declarer.{Declarer}
use Rattle.x_names.proofs.DeclarerLaws.{found_is_first}

-- ---- behind other items

-- a declarer so many items later
abbrev pub later : ℕ → Declarer → Declarer
later n at =
    record { item = n + at.item; word = at.word; place = at.place; kind = at.kind; lifted = at.lifted }

later_place : (n item place : ℕ) (name : List ℕ) (ds : List Declared)
    → place_of_name (n + item) place name ds ≡ option_map (later n) (place_of_name item place name ds)
later_place n item place name [] = refl
later_place n item place name (d ∷ ds) = by (bytes_eq name d.name) (later_place n item (suc place) name ds)
  where
    by : (b : Bool) → place_of_name (n + item) (suc place) name ds
        ≡ option_map (later n) (place_of_name item (suc place) name ds)
        → cond b (Some (declarer_at (n + item) place d)) (place_of_name (n + item) (suc place) name ds)
        ≡ option_map (later n) (cond b (Some (declarer_at item place d))
        (place_of_name item (suc place) name ds))
    by true h = refl
    by false h = h

later_in : (n item : ℕ) (name : List ℕ) (d : Option Definition)
    → declarer_in (n + item) name d ≡ option_map (later n) (declarer_in item name d)
later_in n item name None = refl
later_in n item name (Some d) = later_place n item 0 name (declared d)

later_either : (n : ℕ) (a b : Option Declarer)
    → option_or (option_map (later n) a) (option_map (later n) b) ≡ option_map (later n) (option_or a b)
later_either n None b = refl
later_either n (Some x) b = refl

pub later_first : (n item : ℕ) (ds : List (Option Definition)) (name : List ℕ)
    → first_from (n + item) ds name ≡ option_map (later n) (first_from item ds name)
later_first n item [] name = refl
later_first n item (d ∷ ds) name =
    let next : suc (n + item) ≡ n + suc item = omega arith in
    ap (λ o. option_or o (first_from (suc (n + item)) ds name)) (later_in n item name d)
    ∙ ap (λ k. option_or (option_map (later n) (declarer_in item name d)) (first_from k ds name)) next
    ∙ ap (λ o. option_or (option_map (later n) (declarer_in item name d)) o)
    (later_first n (suc item) ds name)
    ∙ later_either n (declarer_in item name d) (first_from (suc item) ds name)

-- ---- of two lists

or_either : (a b c : Option Declarer) → option_or a (option_or b c) ≡ option_or (option_or a b) c
or_either None b c = refl
or_either (Some x) b c = refl

first_either : (n : ℕ) (ds es : List (Option Definition)) (name : List ℕ)
    → first_from n (ds ++ es) name ≡ option_or (first_from n ds name) (first_from (length ds + n) es name)
first_either n [] es name = let same : n ≡ 0 + n = omega arith in ap (λ k. first_from k es name) same
first_either n (d ∷ ds) es name =
    let next : length ds + suc n ≡ suc (length ds) + n = omega arith in
    ap (λ o. option_or (declarer_in n name d) o) (first_either (suc n) ds es name)
    ∙ or_either (declarer_in n name d) (first_from (suc n) ds name)
    (first_from (length ds + suc n) es name)
    ∙ ap (λ k. option_or (option_or (declarer_in n name d) (first_from (suc n) ds name))
    (first_from k es name)) next

-- the first is that of the first list, and else that of the second
pub first_of_both : (ds es : List (Option Definition)) (name : List ℕ) → first_from 0 (ds ++ es) name
    ≡ option_or (first_from 0 ds name) (option_map (later (length ds)) (first_from 0 es name))
first_of_both ds es name =
    first_either 0 ds es name
    ∙ ap (λ o. option_or (first_from 0 ds name) o) (later_first (length ds) 0 es name)

-- ---- an item that declares a name

pub below : {X : Type 0} (xs : List X) (k : ℕ) (x : X) → slice_get xs k ≡ Some x → k < length xs
below [] k x h = absurd (cc)
below (y ∷ xs) zero x h = omega arith
below (y ∷ xs) (suc k) x h = let rest = below xs k x h in omega (arith, rest)

-- is one of them
pub first_below : (ds : List (Option Definition)) (name : List ℕ) (at : Declarer)
    → first_from 0 ds name ≡ Some at → is_beforehand name ≡ false → at.item < length ds
first_below ds name at found free =
    let declares = (found_is_first ds name at found free).declares in
    below ds at.item (Some declares.definition) declares.item_is
