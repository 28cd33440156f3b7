-- What the items of two lists of definitions see in one list, and what they see in two.
use Rattle.std.proofs.Common.{◌≡◌, ◌<◌, ℕ, ◌+◌, Bool, true, false, cond, List, ◌++◌, length, Option, Some}
use Rattle.std.proofs.Common.{None, arith, refl, sym, ap, ◌∙◌}
use Rattle.std.specs.Prelude.{nat_lt, option_map}
use Rattle.std.specs.Option.{option_or, unwrap_or}
use Rattle.std.proofs.lemmas.Bool.Decides.{nat_tests}
use Rattle.x_trees.specs.Tree.{Definition}
use Rattle.x_trees.specs.declared.names.declared_name.NameKind.TheVariants as kinds
use Rattle.x_names.specs.Declarers.{first_from, is_beforehand}
use Rattle.x_names.specs.declared.names.Declarer.{Declarer}
use Rattle.x_rules.specs.Results.{Outcome, beforehand_meaning, known_or, meaning_at, meaning_in, no_names}
use Rattle.x_rules.specs.Results.{view_by, view_of}
use Rattle.x_rules.specs.Views.{View, Bad, Earlier, Later, Own}
use Rattle.x_compile.specs.Known.{names_known}
use Rattle.x_prelude_laws.proofs.Firsts.{first_below, first_of_both, later}

-- ---- views of a first declarer

same_meaning : (r s : ℕ → Option Outcome) (at other : Declarer) → at.place ≡ other.place
    → r at.item ≡ s other.item → meaning_at r at ≡ meaning_at s other
same_meaning r s at other place same =
    λ i. unwrap_or (option_map (λ o. meaning_in o (place i)) (same i)) Bad

-- by readers that agree on it
same_view : (r s : ℕ → Option Outcome) (item : ℕ) (at : Declarer) → r at.item ≡ s at.item
    → view_of r item (Some at) ≡ view_of s item (Some at)
same_view r s item at same =
    ap (λ m. cond (nat_lt at.item item) (Earlier at.kind at.lifted m)
    (cond (nat_lt item at.item) (Later at.kind at.lifted) (Own at.kind at.lifted)))
    (same_meaning r s at at refl same)

-- that is an earlier one
earlier_view : (r s : ℕ → Option Outcome) (item : ℕ) (at : Declarer) → at.item < item
    → r at.item ≡ s at.item → view_of r item (Some at) ≡ Earlier at.kind at.lifted (meaning_at s at)
earlier_view r s item at lt same =
    let before : nat_lt at.item item ≡ true = grind (arith, nat_tests) in
    same_view r s item at same
    ∙ ap (λ b. cond b (Earlier at.kind at.lifted (meaning_at s at))
    (cond (nat_lt item at.item) (Later at.kind at.lifted) (Own at.kind at.lifted))) before

same_order : (n a b : ℕ) → nat_lt (n + a) (n + b) ≡ nat_lt a b
same_order n a b = by (nat_lt (n + a) (n + b)) refl (nat_lt a b) refl
  where
    by : (x : Bool) → nat_lt (n + a) (n + b) ≡ x → (y : Bool) → nat_lt a b ≡ y → x ≡ y
    by true e true f = refl
    by false e false f = refl
    by true e false f = absurd (grind (arith, nat_tests))
    by false e true f = absurd (grind (arith, nat_tests))

-- so many items later
later_view : (n : ℕ) (r s : ℕ → Option Outcome) (item : ℕ) (at : Declarer) → r (n + at.item) ≡ s at.item
    → view_of r (n + item) (Some (later n at)) ≡ view_of s item (Some at)
later_view n r s item at same =
    let before = same_order n at.item item in
    let behind = same_order n item at.item in
    let meaning = same_meaning r s (later n at) at refl same in
    λ i. cond (before i) (Earlier at.kind at.lifted (meaning i))
    (cond (behind i) (Later at.kind at.lifted) (Own at.kind at.lifted))

-- ---- the same views

-- the reader of the results of both, as those of each
pub record ReadsBoth (n : ℕ) (both first second : ℕ → Option Outcome) : Type 0 where
  pub front : (k : ℕ) → k < n → both k ≡ first k
  pub rear : (k : ℕ) → both (n + k) ≡ second k

-- an item of the second list sees the same, where the names of the first are known
pub second_views : (ds es : List (Option Definition)) (both first second : ℕ → Option Outcome) (item : ℕ)
    (name : List ℕ) → ReadsBoth (length ds) both first second
    → view_by no_names (ds ++ es) both (length ds + item) name
    ≡ view_by (names_known ds first) es second item name
second_views ds es both first second item name reads =
    by (is_beforehand name) refl (first_from 0 ds name) refl (first_from 0 es name) refl
  where
    known : Declarer → View
    known at = Earlier at.kind at.lifted (meaning_at first at)

    own : View
    own = Earlier kinds.Constant false (beforehand_meaning name)

    n : ℕ
    n = length ds

    -- by the first declarers in both lists
    found : (o p : Option Declarer) → first_from 0 ds name ≡ o → first_from 0 es name ≡ p
        → view_of both (n + item) (option_or o (option_map (later n) p))
        ≡ known_or (option_map known o) (view_of second item p)
        → view_of both (n + item) (first_from 0 (ds ++ es) name)
        ≡ known_or (option_map known (first_from 0 ds name)) (view_of second item (first_from 0 es name))
    found o p f g same =
        ap (view_of both (n + item)) (first_of_both ds es name)
        ∙ (λ i. view_of both (n + item) (option_or (f i) (option_map (later n) (g i))))
        ∙ same
        ∙ (λ i. known_or (option_map known (sym f i)) (view_of second item (sym g i)))

    by : (b : Bool) → is_beforehand name ≡ b → (o : Option Declarer) → first_from 0 ds name ≡ o
        → (p : Option Declarer) → first_from 0 es name ≡ p
        → cond b own (view_of both (n + item) (cond b None (first_from 0 (ds ++ es) name)))
        ≡ cond b own (known_or (option_map known (cond b None (first_from 0 ds name)))
        (view_of second item (cond b None (first_from 0 es name))))
    by true e o f p g = refl
    by false e (Some at) f p g =
        let lt = first_below ds name at f e in
        found (Some at) p f g
        (earlier_view both first (n + item) at (omega (arith, lt)) (reads.front at.item lt))
    by false e None f (Some at) g =
        found None (Some at) f g (later_view n both second item at (reads.rear at.item))
    by false e None f None g = found None None f g refl

-- an item of the first list sees the same of a name that it declares or the second does not
pub first_views : (ds es : List (Option Definition)) (both first second : ℕ → Option Outcome) (item : ℕ)
    (name : List ℕ) → ReadsBoth (length ds) both first second
    → (is_beforehand name ≡ false → first_from 0 ds name ≡ None → first_from 0 es name ≡ None)
    → view_by no_names ds first item name ≡ view_by no_names (ds ++ es) both item name
first_views ds es both first second item name reads apart =
    by (is_beforehand name) refl (first_from 0 ds name) refl
  where
    own : View
    own = Earlier kinds.Constant false (beforehand_meaning name)

    by : (b : Bool) → is_beforehand name ≡ b → (o : Option Declarer) → first_from 0 ds name ≡ o
        → cond b own (view_of first item (cond b None (first_from 0 ds name)))
        ≡ cond b own (view_of both item (cond b None (first_from 0 (ds ++ es) name)))
    by true e o f = refl
    by false e (Some at) f =
        let lt = first_below ds name at f e in
        ap (view_of first item) f
        ∙ sym (same_view both first item at (reads.front at.item lt))
        ∙ sym (ap (view_of both item) (first_of_both ds es name
        ∙ ap (λ o. option_or o (option_map (later (length ds)) (first_from 0 es name))) f))
    by false e None f =
        ap (view_of first item) f
        ∙ sym (ap (view_of both item) (first_of_both ds es name
        ∙ (λ i. option_or (f i) (option_map (later (length ds)) (apart e f i)))))
