-- The types of a faultless text are as the first declarers of their names declare them.
use Rattle.std.proofs.Common.{◌≡◌, ◌<◌, ◌⊎◌, inl, inr, ℕ, suc, ◌+◌, Bool, true, false, ◌||◌, is_some, cond}
use Rattle.std.proofs.Common.{List, [], ◌∷◌, ◌++◌, Option, None, Some, IsSome, refl, sym, ap, subst, ◌∙◌}
use Rattle.std.proofs.Common.{arith}
use Rattle.std.specs.Prelude.{slice_get, nat_lt}
use Rattle.std.specs.List.{IsAmong}
use Rattle.std.specs.Map.{lookup}
use Rattle.std.specs.Option.{option_map_or, option_or}
use Rattle.std.specs.Str.{bytes_eq}
use Rattle.std.proofs.lemmas.Bool.Decides.{nat_tests}
use Rattle.std.proofs.lemmas.Option.{same_Some}
use Rattle.std.proofs.lemmas.Slice.Eq.{bytes_eq-Decides}
use Rattle.x_numbers.proofs.Lookups.{lookup_more}
use Rattle.x_trees.specs.Tree.{Declaration, Definition}
use Rattle.x_trees.specs.Declarations.{name_of}
use Rattle.x_trees.specs.Mentions.{Mention, mentioned}
use Rattle.x_trees.specs.declared.names.mention.Use.{Use}
use Rattle.x_trees.specs.declared.names.mention.Use.TheVariants as uses
use Rattle.x_trees.proofs.AmongLemmas.{among_cases, among_first, among_more, among_none}
use Rattle.x_rules.specs.Results.{Outcome, AreResults, no_names}
use Rattle.x_schema.specs.Schema.{Schema, id_named, name_at, named_type}
use Rattle.x_schema.specs.SchemaOf.{Numbers, Types, AreNamed, AreTypesOf, IsDeclared, numbers_of, place_named}
use Rattle.x_schema.specs.SchemaOf.{typedefs, with_first, with_types}
use Rattle.x_schema.specs.Schemas.{IsSchemaOf}
use Rattle.x_schema.specs.declared.schema.NamedType.{NamedType}
use Rattle.x_laws.specs.Meant.{AreFaultless, IsAsDeclared, IsTypeName, IsUsedAsType, whole}
use Rattle.x_laws.proofs.Faultless.{only_declarer}
use Rattle.x_laws.proofs.Held.{IfHeld, LeadsAlike, TypedefsHold, declared_moves, typedefs_held}
use Rattle.x_laws.proofs.Mentioned.{use_of}
use Rattle.x_laws.proofs.SchemaTypes.{declares_defined, defined_declarer, schema_types}
use Rattle.x_laws.proofs.TypeTables.{is_there, named_defined, types_there}
use Rattle.x_laws.proofs.TypeWords.{is_defined}

-- ---- types that stay

-- what the one table has for names, the other has too
abbrev Keeps : Types → Types → Type 0
Keeps A B = (n : List ℕ) (t : NamedType) → lookup (bytes_eq n) A ≡ Some t → lookup (bytes_eq n) B ≡ Some t

first_keeps : (A : Types) (k : List ℕ) (x : NamedType) → Keeps A (with_first bytes_eq A k x)
first_keeps A k x n t h = by (is_there A k)
  where
    by : (b : Bool) → lookup (bytes_eq n) (cond b A (A ++ (k, x) ∷ [])) ≡ Some t
    by true = h
    by false = lookup_more (bytes_eq n) A k x ∙ ap (λ o. option_or o (cond (bytes_eq n k) (Some x) None)) h

types_keep : (s : Schema) (A : Types) (ts : List NamedType) → Keeps A (with_types s A ts)
types_keep s A [] n t h = h
types_keep s A (x ∷ xs) n t h = types_keep s (with_first bytes_eq A (name_at s x.name) x) xs n t
    (first_keeps A (name_at s x.name) x n t h)

items_keep : (s : Schema) (numbers : Numbers) (A : Types) (ds : List (Option Definition))
    → AreTypesOf s numbers A ds → Keeps A s.types
items_keep s numbers A [] are n t h = ap (lookup (bytes_eq n)) are ∙ h
items_keep s numbers A (d ∷ ds) are n t h = items_keep s numbers (with_types s A are.0) ds are.2 n t
    (types_keep s A are.0 n t h)

same_place : (A B : Types) (n : List ℕ) → Keeps A B → is_there A n ≡ true → place_named A n ≡ place_named B n
same_place A B n keeps there = by (lookup (bytes_eq n) A) refl there
  where
    by : (o : Option NamedType) → lookup (bytes_eq n) A ≡ o → is_some o ≡ true
        → place_named A n ≡ place_named B n
    by None e k = absurd cc
    by (Some t) e k = ap (λ o. option_map_or (λ x. x.form) o 0) (e ∙ sym (keeps n t e))

-- ---- types by their items

-- an item has a typedef of the name, which declares the form by the whole text
record IsDeclaredIn (definitions : List (Option Definition)) (s : Schema) (name : List ℕ)
    (form : ℕ) : Type 0 where
  item : ℕ
  definition : Definition
  item_is : slice_get definitions item ≡ Some (Some definition)
  declaration : Declaration
  is_typedef : IsAmong (typedefs (Some definition)) declaration
  named : name_of declaration ≡ name
  declared : IsDeclared s (whole definitions s) declaration form

abbrev AreDeclaredIn : List (Option Definition) → Schema → Types → Type 0
AreDeclaredIn definitions s A = (n : List ℕ) (t : NamedType) → lookup (bytes_eq n) A ≡ Some t
    → IsDeclaredIn definitions s n t.form

first_declared : (definitions : List (Option Definition)) (s : Schema) (A : Types) (k : List ℕ)
    (x : NamedType) → AreDeclaredIn definitions s A → IsDeclaredIn definitions s k x.form
    → AreDeclaredIn definitions s (with_first bytes_eq A k x)
first_declared definitions s A k x are one n t h = by (is_there A k) h
  where
    here : (b : Bool) → bytes_eq n k ≡ b → option_or None (cond b (Some x) None) ≡ Some t
        → IsDeclaredIn definitions s n t.form
    here true e h =
        let same : x ≡ t = same_Some x t h in
        let name : n ≡ k = (bytes_eq-Decides n k).0 e in
        subst (λ y. IsDeclaredIn definitions s n y.form) same
        (subst (λ m. IsDeclaredIn definitions s m x.form) (sym name) one)
    here false e h = absurd cc

    behind : (o : Option NamedType) → lookup (bytes_eq n) A ≡ o
        → option_or o (cond (bytes_eq n k) (Some x) None) ≡ Some t → IsDeclaredIn definitions s n t.form
    behind (Some y) e h = are n t (e ∙ h)
    behind None e h = here (bytes_eq n k) refl h

    by : (b : Bool) → lookup (bytes_eq n) (cond b A (A ++ (k, x) ∷ [])) ≡ Some t
        → IsDeclaredIn definitions s n t.form
    by true h = are n t h
    by false h = behind (lookup (bytes_eq n) A) refl (sym (lookup_more (bytes_eq n) A k x) ∙ h)

-- the typedefs of an item, of which these are left
named_declared : (definitions : List (Option Definition)) (s : Schema) (item : ℕ) (d : Definition)
    (A B : Types) (ds : List Declaration) (found : List NamedType)
    → slice_get definitions item ≡ Some (Some d) →
    ((x : Declaration) → IsAmong ds x → IsAmong (typedefs (Some d)) x)
    → TypedefsHold (LeadsAlike A s.types) ds
    → AreDeclaredIn definitions s B → AreNamed s (record
    { numbers = numbers_of definitions; types = A }) ds found
    → AreDeclaredIn definitions s (with_types s B found)
named_declared definitions s item d A B [] found there all holds are h = subst
    (λ l. AreDeclaredIn definitions s (with_types s B l)) (sym h) are
named_declared definitions s item d A B (x ∷ xs) found there all holds are h =
    let one : IsDeclaredIn definitions s (name_at s h.0.name) h.0.form = record {
      item = item;
      definition = d;
      item_is = there;
      declaration = x;
      is_typedef = all x (among_first x xs);
      named = sym h.3;
      declared = declared_moves s (numbers_of definitions) A s.types x h.0.form holds.0 h.4;
    } in
    let next = with_first bytes_eq B (name_at s h.0.name) h.0 in
    subst (λ l. AreDeclaredIn definitions s (with_types s B l)) (sym h.2)
    (named_declared definitions s item d A next xs h.1 there (λ y k. all y (among_more x y xs k)) holds.1
    (first_declared definitions s B (name_at s h.0.name) h.0 are one) h.5)

-- the table has the types of all items before
abbrev HasBefore : List (Option Definition) → ℕ → Types → Type 0
HasBefore definitions item A =
    (n : List ℕ) (k : ℕ) (d : Definition) → k < item → slice_get definitions k ≡ Some (Some d)
    → is_defined n (typedefs (Some d)) ≡ true → is_there A n ≡ true

or_left : (a b : Bool) → a ≡ true → a || b ≡ true
or_left true b e = refl
or_left false b e = absurd cc

or_right : (a b : Bool) → b ≡ true → a || b ≡ true
or_right true b e = refl
or_right false b e = e

has_next : (definitions : List (Option Definition)) (s : Schema) (item : ℕ) (d : Option Definition)
    (A : Types) (found : List NamedType) → slice_get definitions item ≡ Some d
    → AreNamed s (record { numbers = numbers_of definitions; types = A }) (typedefs d) found
    → HasBefore definitions item A → HasBefore definitions (suc item) (with_types s A found)
has_next definitions s item d A found there named before n k x lt is defined = by (nat_lt k item) refl
  where
    by : (b : Bool) → nat_lt k item ≡ b → is_there (with_types s A found) n ≡ true
    by true e = types_there s A found n ∙ or_left (is_there A n) _
        (before n k x (grind (arith, nat_tests)) is defined)
    by false e =
        let same : k ≡ item = grind (arith, nat_tests) in
        let one : d ≡ Some x = same_Some d (Some x)
        (sym there ∙ ap (slice_get definitions) (sym same) ∙ is) in
        types_there s A found n
        ∙ or_right (is_there A n) _ (named_defined s (record { numbers = numbers_of definitions; types = A })
        (typedefs d) found n named ∙ ap (λ y. is_defined n (typedefs y)) one ∙ defined)

-- the typedefs of an item hold by value what leads to the same by all types of the text
item_holds : (definitions : List (Option Definition)) (results : List (Option Outcome)) (s : Schema)
    (item : ℕ) (d : Definition) (A : Types) → AreResults no_names definitions results → AreFaultless results
    → slice_get definitions item ≡ Some (Some d) → HasBefore definitions item A → Keeps A s.types
    → TypedefsHold (LeadsAlike A s.types) (typedefs (Some d))
item_holds definitions results s item d A are fine there before keeps = typedefs_held
    (LeadsAlike A s.types) d (λ m among. by m among m.usage refl)
  where
    held : (m : Mention) → IsAmong (mentioned d) m → m.usage ≡ uses.ByValue → LeadsAlike A s.types m.name
    held m among e =
        let known = use_of definitions results item d m are fine there among (λ k. not_both (sym e ∙ k)) in
        let first = known.viewed.first.declares in
        same_place A s.types m.name keeps
        (before m.name known.viewed.at.item first.definition (known.held e) first.item_is
        (declares_defined definitions m.name known.viewed.at first known.viewed.is_type))
      where
        not_both : uses.ByValue ≡ uses.Value → ⊥
        not_both k = absurd cc

    by : (m : Mention) → IsAmong (mentioned d) m → (u : Use) → m.usage ≡ u
        → IfHeld (LeadsAlike A s.types) u m.name
    by m among uses.ByValue e = held m among e
    by m among uses.Link e = tt
    by m among uses.Value e = tt

-- where these items are left, behind so many
items_declared : (definitions : List (Option Definition)) (results : List (Option Outcome)) (s : Schema)
    (item : ℕ) (ds : List (Option Definition)) (A : Types) → AreResults no_names definitions results
    → AreFaultless results → ((k : ℕ) → slice_get definitions (item + k) ≡ slice_get ds k)
    → AreTypesOf s (numbers_of definitions) A ds → HasBefore definitions item A
    → AreDeclaredIn definitions s A → AreDeclaredIn definitions s s.types
items_declared definitions results s item [] A are fine rest types before all = λ n t h. all n t
    (sym (ap (lookup (bytes_eq n)) types) ∙ h)
items_declared definitions results s item (d ∷ ds) A are fine rest types before all =
    let at : item + 0 ≡ item = omega arith in
    let there : slice_get definitions item ≡ Some d = sym (ap (slice_get definitions) at) ∙ rest 0 in
    items_declared definitions results s (suc item) ds (with_types s A types.0) are fine
    (λ k. let e : suc item + k ≡ item + suc k = omega arith in ap (slice_get definitions) e ∙ rest (suc k))
    types.2 (has_next definitions s item d A types.0 there types.1 before) (by d there types.0 types.1)
  where
    keeps : Keeps A s.types
    keeps = items_keep s (numbers_of definitions) A (d ∷ ds) types

    by : (x : Option Definition) → slice_get definitions item ≡ Some x → (found : List NamedType)
        → AreNamed s (record { numbers = numbers_of definitions; types = A }) (typedefs x) found
        → AreDeclaredIn definitions s (with_types s A found)
    by None there found named = subst (λ l. AreDeclaredIn definitions s (with_types s A l)) (sym named) all
    by (Some x) there found named =
        named_declared definitions s item x A A (typedefs (Some x)) found there (λ y k. k)
        (item_holds definitions results s item x A are fine there before keeps) all named

-- ---- the law

is_among_defined : (name : List ℕ) (ds : List Declaration) (d : Declaration) → IsAmong ds d
    → name_of d ≡ name → is_defined name ds ≡ true
is_among_defined name [] d h e = absurd (among_none d h)
is_among_defined name (x ∷ xs) d h e = by (among_cases x d xs h) (λ k. is_among_defined name xs d k e)
  where
    by : (d ≡ x) ⊎ IsAmong xs d → (IsAmong xs d → is_defined name xs ≡ true) → is_defined name (x ∷ xs) ≡ true
    by (inl same) more = or_left (bytes_eq name (name_of x)) (is_defined name xs)
        ((bytes_eq-Decides name (name_of x)).1 (sym e ∙ ap name_of same))
    by (inr k) more = or_right (bytes_eq name (name_of x)) (is_defined name xs) (more k)

all_declared : (definitions : List (Option Definition)) (results : List (Option Outcome)) (s : Schema)
    → AreResults no_names definitions results → AreFaultless results → IsSchemaOf definitions s
    → AreDeclaredIn definitions s s.types
all_declared definitions results s are fine h =
    items_declared definitions results s 0 definitions [] are fine
    (λ k. let e : 0 + k ≡ k = omega arith in ap (slice_get definitions) e) h.types
    (λ n k d lt. absurd (omega (arith, lt))) (λ n t e. absurd cc)

pub as_declared : (definitions : List (Option Definition)) (results : List (Option Outcome)) (s : Schema)
    → AreResults no_names definitions results → AreFaultless results → IsSchemaOf definitions s
    → (name : List ℕ) (t : NamedType) → named_type s name ≡ Some t → IsAsDeclared definitions s name t.form
as_declared definitions results s are fine h name t e =
    let one = all_declared definitions results s are fine h name t e in
    let declarer = defined_declarer definitions name one.item one.definition one.item_is
    (is_among_defined name (typedefs (Some one.definition)) one.declaration one.is_typedef one.named) in
    let first = only_declarer definitions results name declarer.at are fine declarer.declares in
    let same : one.definition ≡ first.declares.definition =
    sym declarer.same
    ∙ same_Some declarer.declares.definition first.declares.definition
    (same_Some (Some declarer.declares.definition) (Some first.declares.definition)
    (sym declarer.declares.item_is ∙ first.declares.item_is)) in
    record {
      at = declarer.at;
      first = first;
      declaration = one.declaration;
      is_typedef = subst (λ d. IsAmong (typedefs (Some d)) one.declaration) same one.is_typedef;
      named = one.named;
      declared = one.declared;
    }

pub used_named : (definitions : List (Option Definition)) (results : List (Option Outcome)) (s : Schema)
    → AreResults no_names definitions results → AreFaultless results → IsSchemaOf definitions s
    → (name : List ℕ) → IsUsedAsType definitions name → IsSome (id_named s name)
used_named definitions results s are fine h name u =
    let known = use_of definitions results u.item u.definition u.mention are fine u.item_is u.is_mentioned
    u.is_type in
    let type : IsTypeName definitions u.mention.name = record
    { at = known.viewed.at; first = known.viewed.first; is_type = known.viewed.is_type } in
    (schema_types definitions results s are fine h name).1 (subst (IsTypeName definitions) u.named type)
