-- The types of bodies by the words that name them, and what names mean.
use Rattle.std.specs.Prelude.{nat_eq, slice_get, option_map, MatchOption, ◌||◌}
use Rattle.std.specs.Borrow.{Bor}
use Rattle.std.specs.List.{list_any}
use Rattle.std.proofs.Common.{◌≡◌, ℕ, suc, ◌<◌, ◌≤◌, Bool, true, false, cond, List, [], ◌∷◌, ◌++◌, length}
use Rattle.std.proofs.Common.{map, get_or, Option, None, Some, arith, refl, sym, ap, ◌∙◌, append_assoc}
use Rattle.std.proofs.Common.{append-nil}
use Rattle.std.proofs.lemmas.Bool.Decides.{nat_tests}
use Rattle.std.proofs.lemmas.Cmp.{nat_eq_equiv}
use Rattle.std.proofs.lemmas.Option.{slice_get_past, slice_get-get_or, slice_get-map}
use Rattle.x_trees.specs.Tree as tree
use Rattle.x_trees.specs.Tree.{Definition}
use Rattle.x_trees.specs.declared.names.declared_name.NameKind.{NameKind}
use Rattle.x_trees.specs.declared.names.declared_name.NameKind.TheVariants as kinds
use Rattle.x_outline.specs.Bodies.{BodyAt, bodies, enumerators}
use Rattle.x_rules.specs.Constants.{Known, knowns}
use Rattle.x_outline.specs.BodyWalks.{view_body_at}
use Rattle.x_rules.specs.FirstPlaces.{first_from}
use Rattle.x_rules.specs.Meanings.{body_named, counted_type, counted_definition}
use Rattle.x_rules.specs.Results.{type_of, type_named, type_defined, meaning_as}
use Rattle.x_rules.specs.Tables.{capped, is_too_high}
use Rattle.x_rules.specs.Types.{body_class, declaration_class, body_height, held_height, defined_heights}
use Rattle.x_rules.specs.Types.{heights}
use Rattle.x_rules.specs.Views.{View}
use Rattle.x_outline.specs.declared.parts.BodyAt.{BodyAt as Kept}
use Rattle.x_rules.proofs.FirstLemmas.{first_mapped, shift}

-- ---- bodies by the words that name their types

-- the body in a place
abbrev pub body_in : List BodyAt → Option ℕ → Option BodyAt
body_in bs None = None
body_in bs (Some place) = slice_get bs place

abbrev has_word : ℕ → BodyAt → Bool
has_word word b = nat_eq word b.named

in_place : (bs : List BodyAt) (word : ℕ) → body_in bs (first_from (has_word word) 0 bs) ≡ body_named bs word
in_place [] word = refl
in_place (b ∷ bs) word = by (nat_eq word b.named) (first_from (has_word word) 0 bs)
    (shift (has_word word) 0 bs) (in_place bs word)
  where
    by : (t : Bool) (o : Option ℕ) → first_from (has_word word) 1 bs ≡ option_map suc o
        → body_in bs o ≡ body_named bs word
        → body_in (b ∷ bs) (cond t (Some 0) (first_from (has_word word) 1 bs))
        ≡ cond t (Some b) (body_named bs word)
    by true o s h = refl
    by false None s h = ap (body_in (b ∷ bs)) s ∙ h
    by false (Some k) s h = ap (body_in (b ∷ bs)) s ∙ h

-- the body in the first place of the word
pub body_in_place : (bs : List Kept) (word : ℕ) (place : Option ℕ)
    → place ≡ first_from (λ b. nat_eq word b.named) 0 bs
    → body_in (map view_body_at bs) place ≡ body_named (map view_body_at bs) word
body_in_place bs word place is = ap (body_in (map view_body_at bs))
    (is ∙ sym (first_mapped (has_word word) view_body_at 0 bs)) ∙ in_place (map view_body_at bs) word

-- what is lent of a list is what stands in the place
pub lent_at : {X Y : Type 0} (f : X → Y) (xs : List X) (i : ℕ) (r : Option (Bor X))
    → MatchOption r (length xs ≤ i) (λ x. (i < length xs) × ((d : X) → x.now ≡ get_or xs i d))
    → option_map (λ x. f x.now) r ≡ slice_get (map f xs) i
lent_at f xs i None le = sym (slice_get-map f xs i ∙ ap (option_map f) (slice_get_past xs i le))
lent_at f xs i (Some x) h = sym (slice_get-map f xs i ∙ ap (option_map f) (slice_get-get_or xs i x.now h.0)
    ∙ ap (λ y. Some (f y)) (sym (h.1 x.now)))

-- ---- heights that none exceeds

or_first : (a b : Bool) → (a || b) ≡ false → a ≡ false
or_first true b h = h
or_first false b h = refl

or_second : (a b : Bool) → (a || b) ≡ false → b ≡ false
or_second true b h = absurd (cc)
or_second false b h = h

low : (n : ℕ) → is_too_high n ≡ false → capped n ≡ n
low n h = grind (arith, nat_tests)

any_rear : {X : Type 0} (p : X → Bool) (xs ys : List X) → list_any p (xs ++ ys) ≡ false
    → list_any p ys ≡ false
any_rear p [] ys h = h
any_rear p (x ∷ xs) ys h = any_rear p xs ys (or_second (p x) (list_any p (xs ++ ys)) h)

-- the type of the first body of the word
named_type : (see : List ℕ → View) (known : List Known) (bs : List BodyAt) (word : ℕ)
    → list_any is_too_high (map (λ b. body_height see b.body) bs) ≡ false
    → counted_type see known (body_named bs word) ≡ type_named see known bs word
named_type see known [] word h = refl
named_type see known (b ∷ bs) word h =
    ap (λ t. counted_type see known (cond t (Some b) (body_named bs word))) (nat_eq_equiv.symm word b.named)
    ∙ by (nat_eq b.named word)
    (low (body_height see b.body) (or_first (is_too_high (body_height see b.body)) rest h))
    (named_type see known bs word (or_second (is_too_high (body_height see b.body)) rest h))
  where
    rest : Bool
    rest = list_any is_too_high (map (λ b. body_height see b.body) bs)

    by : (t : Bool) → capped (body_height see b.body) ≡ body_height see b.body
        → counted_type see known (body_named bs word) ≡ type_named see known bs word
        → counted_type see known (cond t (Some b) (body_named bs word)) ≡ cond t
        (type_of (body_class known b.body) (body_height see b.body)) (type_named see known bs word)
    by true e more = ap (type_of (body_class known b.body)) e
    by false e more = more

pub type_at : (d : Definition) (see : List ℕ → View) (known : List Known) (word : ℕ)
    → list_any is_too_high (heights d see) ≡ false
    → counted_type see known (body_named (bodies d) word) ≡ type_named see known (bodies d) word
type_at d see known word h = named_type see known (bodies d) word
    (any_rear is_too_high (defined_heights d see) (map (λ b. body_height see b.body) (bodies d)) h)

pub defined_type : (d : Definition) (see : List ℕ → View) (known : List Known)
    → list_any is_too_high (heights d see) ≡ false → counted_definition see known d ≡ type_defined see known d
defined_type (tree.Const name value) see known h = refl
defined_type (tree.Typedef d) see known h =
    ap (type_of (declaration_class see known d))
    (low (suc (held_height see d)) (or_first (is_too_high (suc (held_height see d)))
    (list_any is_too_high (map (λ b. body_height see b.body) (bodies (tree.Typedef d)))) h))
defined_type (tree.NewType name body) see known h = refl
defined_type (tree.Program name versions number) see known h = refl

-- ---- meanings

-- any other name is that of a body's type
pub meaning_of_type : (d : Definition) (see : List ℕ → View) (kind : NameKind) (name : List ℕ) (word : ℕ)
    → (kind ≡ kinds.Constant → ⊥) → (kind ≡ kinds.Typedef → ⊥) → (kind ≡ kinds.Program → ⊥)
    → type_named see (knowns see (enumerators d)) (bodies d) word ≡ meaning_as d see kind name word
meaning_of_type d see kinds.Constant name word a b c = absurd (a refl)
meaning_of_type d see kinds.Typedef name word a b c = absurd (b refl)
meaning_of_type d see kinds.Program name word a b c = absurd (c refl)
meaning_of_type d see kinds.Enum name word a b c = refl
meaning_of_type d see kinds.Struct name word a b c = refl
meaning_of_type d see kinds.Union name word a b c = refl

-- one element more
pub mapped_more : {X Y : Type 0} (f : X → Y) (now next : List Y) (xs : List X) (x : X) (rest : List X)
    (all : List Y) → xs ≡ x ∷ rest → next ≡ now ++ f x ∷ [] → now ++ map f xs ≡ all → next ++ map f rest ≡ all
mapped_more f now next xs x rest all is step h =
    ap (λ l. l ++ map f rest) step ∙ append_assoc now (f x ∷ []) (map f rest)
    ∙ sym (ap (λ l. now ++ map f l) is) ∙ h

pub mapped_all : {X Y : Type 0} (f : X → Y) (now : List Y) (xs : List X) (all : List Y) → xs ≡ []
    → now ++ map f xs ≡ all → now ≡ all
mapped_all f now xs all none h = sym (append-nil now) ∙ sym (ap (λ l. now ++ map f l) none) ∙ h
