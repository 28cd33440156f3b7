-- A name is among the types of a faultless text exactly where its first declarer declares it as a type.
use Rattle.std.proofs.Common.{◌≡◌, ◌↔◌, ℕ, zero, suc, ◌+◌, Bool, true, false, ◌||◌, ◌&&◌, is_some, List, []}
use Rattle.std.proofs.Common.{◌∷◌, ◌++◌, Option, None, Some, IsSome, refl, sym, ap, ◌∙◌}
use Rattle.std.specs.Prelude.{slice_get, option_map}
use Rattle.std.specs.Map.{lookup}
use Rattle.std.specs.Str.{bytes_eq}
use Rattle.std.proofs.lemmas.Option.{same_Some}
use Rattle.std.proofs.lemmas.Slice.Eq.{bytes_eq-Decides}
use Rattle.x_trees.specs.Tree.{Definition}
use Rattle.x_trees.specs.Gloss.{Role, Declares, Gloss, gloss, told_of}
use Rattle.x_trees.specs.Names.{Declared, declared, declared_at}
use Rattle.x_names.specs.Declarers.{IsDeclarer, declarer_at}
use Rattle.x_names.specs.declared.names.Declarer.{Declarer}
use Rattle.x_rules.specs.Mentioned.{suits}
use Rattle.x_rules.specs.Results.{Outcome, AreResults, no_names}
use Rattle.x_schema.specs.Schema.{Schema, id_named, type_id}
use Rattle.x_schema.specs.SchemaOf.{numbers_of, typedefs}
use Rattle.x_schema.specs.Schemas.{IsSchemaOf}
use Rattle.x_schema.specs.declared.schema.NamedType.{NamedType}
use Rattle.x_laws.specs.Meant.{AreFaultless, IsTypeName}
use Rattle.x_laws.proofs.Faultless.{only_declarer}
use Rattle.x_laws.proofs.TypeTables.{is_in_items, items_there}
use Rattle.x_laws.proofs.TypeWords.{definition_told, is_defined, roles_type, words_type}

-- ---- names that are declared as types

abbrev is_type_among : List ℕ → List Declared → Bool
is_type_among n [] = false
is_type_among n (x ∷ xs) = (suits None x.kind && bytes_eq n x.name) || is_type_among n xs

or_assoc : (a b c : Bool) → a || (b || c) ≡ (a || b) || c
or_assoc true b c = refl
or_assoc false b c = refl

among_both : (n : List ℕ) (xs ys : List Declared)
    → is_type_among n (xs ++ ys) ≡ is_type_among n xs || is_type_among n ys
among_both n [] ys = refl
among_both n (x ∷ xs) ys =
    ap (λ b. (suits None x.kind && bytes_eq n x.name) || b) (among_both n xs ys)
    ∙ or_assoc (suits None x.kind && bytes_eq n x.name) (is_type_among n xs) (is_type_among n ys)

of_roles : (n : List ℕ) (at : ℕ) (roles : List Role)
    → is_type_among n (declared_at at roles) ≡ roles_type n roles
of_roles n at [] = refl
of_roles n at (Declares name kind lifted ∷ roles) = ap (λ b. (suits None kind && bytes_eq n name) || b)
    (of_roles n at roles)
of_roles n at (role ∷ roles) = of_roles n at roles

of_words : (n : List ℕ) (at : ℕ) (gs : List Gloss)
    → is_type_among n (told_of declared_at at gs) ≡ words_type n gs
of_words n at [] = refl
of_words n at (g ∷ gs) =
    let first = of_roles n at g.roles in
    let rest = of_words n (at + 1) gs in
    among_both n (declared_at at g.roles) (told_of declared_at (at + 1) gs) ∙ (λ i. first i || rest i)

-- the name is declared as a type in a place of the list
record IsTypeAt (n : List ℕ) (xs : List Declared) : Type 0 where
  place : ℕ
  declared : Declared
  there : slice_get xs place ≡ Some declared
  name : declared.name ≡ n
  is_type : suits None declared.kind ≡ true

type_place : (n : List ℕ) (xs : List Declared) → is_type_among n xs ≡ true → IsTypeAt n xs
type_place n [] h = absurd cc
type_place n (x ∷ xs) h = by (suits None x.kind) (bytes_eq n x.name) refl refl h (λ k. type_place n xs k)
  where
    later : IsTypeAt n xs → IsTypeAt n (x ∷ xs)
    later r = record {
      place = suc r.place;
      declared = r.declared;
      there = r.there;
      name = r.name;
      is_type =
          r.is_type;
    }

    by : (a b : Bool) → suits None x.kind ≡ a → bytes_eq n x.name ≡ b → (a && b) || is_type_among n xs ≡ true
        → (is_type_among n xs ≡ true → IsTypeAt n xs) → IsTypeAt n (x ∷ xs)
    by true true e k h more = record {
      place = 0;
      declared = x;
      there = refl;
      name = sym
          ((bytes_eq-Decides n x.name).0 k);
      is_type = e;
    }
    by true false e k h more = later (more h)
    by false b e k h more = later (more h)

or_true : (a : Bool) → a || true ≡ true
or_true true = refl
or_true false = refl

place_type : (n : List ℕ) (xs : List Declared) (place : ℕ) (x : Declared) → slice_get xs place ≡ Some x
    → x.name ≡ n → suits None x.kind ≡ true → is_type_among n xs ≡ true
place_type n [] place x h same is = absurd cc
place_type n (y ∷ ys) zero x h same is =
    let one = same_Some y x h in
    let kind : suits None y.kind ≡ true = ap (λ z. suits None z.kind) one ∙ is in
    let name : bytes_eq n y.name ≡ true = (bytes_eq-Decides n y.name).1 (sym (ap (λ z. z.name) one ∙ same)) in
    λ i. (kind i && name i) || is_type_among n ys
place_type n (y ∷ ys) (suc place) x h same is =
    ap (λ b. (suits None y.kind && bytes_eq n y.name) || b) (place_type n ys place x h same is)
    ∙ or_true (suits None y.kind && bytes_eq n y.name)

-- ---- items

record IsItemDefining (n : List ℕ) (ds : List (Option Definition)) : Type 0 where
  item : ℕ
  definition : Definition
  there : slice_get ds item ≡ Some (Some definition)
  defines : is_defined n (typedefs (Some definition)) ≡ true

item_defining : (n : List ℕ) (ds : List (Option Definition)) → is_in_items n ds ≡ true → IsItemDefining n ds
item_defining n [] h = absurd cc
item_defining n (d ∷ ds) h = by d (is_defined n (typedefs d)) refl h (λ k. item_defining n ds k)
  where
    later : (d : Option Definition) → IsItemDefining n ds → IsItemDefining n (d ∷ ds)
    later d r = record { item = suc r.item; definition = r.definition; there = r.there; defines = r.defines }

    by : (d : Option Definition) (b : Bool) → is_defined n (typedefs d) ≡ b → b || is_in_items n ds ≡ true
        → (is_in_items n ds ≡ true → IsItemDefining n ds) → IsItemDefining n (d ∷ ds)
    by None true e h more = absurd cc
    by (Some x) true e h more = record { item = 0; definition = x; there = refl; defines = e }
    by d false e h more = later d (more h)

defining_item : (n : List ℕ) (ds : List (Option Definition)) (item : ℕ) (d : Definition)
    → slice_get ds item ≡ Some (Some d) → is_defined n (typedefs (Some d)) ≡ true → is_in_items n ds ≡ true
defining_item n [] item d there h = absurd cc
defining_item n (x ∷ ds) zero d there h = ap (λ b. b || is_in_items n ds)
    (ap (λ y. is_defined n (typedefs y)) (same_Some x (Some d) there) ∙ h)
defining_item n (x ∷ ds) (suc item) d there h = ap (λ b. is_defined n (typedefs x) || b)
    (defining_item n ds item d there h) ∙ or_true (is_defined n (typedefs x))

-- ---- the law

id_there : (o : Option NamedType) → is_some (option_map type_id o) ≡ is_some o
id_there None = refl
id_there (Some t) = refl

-- the schema has a type of the name where an item defines it
named_there : (definitions : List (Option Definition)) (s : Schema) (name : List ℕ)
    → IsSchemaOf definitions s → is_some (id_named s name) ≡ is_in_items name definitions
named_there definitions s name h = id_there (lookup (bytes_eq name) s.types)
    ∙ items_there s (numbers_of definitions) [] definitions name h.types

words_declared : (name : List ℕ) (d : Definition)
    → is_type_among name (declared d) ≡ is_defined name (typedefs (Some d))
words_declared name d = of_words name 0 (gloss d) ∙ definition_told name d

-- an item that defines a name declares it as a type
pub record IsTypeDeclarer (definitions : List (Option Definition)) (name : List ℕ)
    (d : Definition) : Type 0 where
  pub at : Declarer
  pub declares : IsDeclarer definitions name at
  pub is_type : suits None at.kind ≡ true
  pub same : declares.definition ≡ d

pub defined_declarer : (definitions : List (Option Definition)) (name : List ℕ) (item : ℕ) (d : Definition)
    → slice_get definitions item ≡ Some (Some d)
    → is_defined name (typedefs (Some d)) ≡ true → IsTypeDeclarer definitions name d
defined_declarer definitions name item d there defines =
    let found = type_place name (declared d) (words_declared name d ∙ defines) in
    let x : found.declared ≡ record {
      name = name;
      word = found.declared.word;
      kind = found.declared.kind;
      lifted = found.declared.lifted;
    } =
    λ i. record {
      name = found.name i;
      word = found.declared.word;
      kind = found.declared.kind;
      lifted =
          found.declared.lifted;
    } in
    record {
      at = declarer_at item found.place found.declared;
      declares = record { definition = d; item_is = there; declares = found.there ∙ ap Some x };
      is_type = found.is_type;
      same = refl;
    }

-- and one that declares it as a type defines it
pub declares_defined : (definitions : List (Option Definition)) (name : List ℕ) (at : Declarer)
    → (h : IsDeclarer definitions name at) → suits None at.kind ≡ true
    → is_defined name (typedefs (Some h.definition)) ≡ true
declares_defined definitions name at h type =
    let x : Declared = record { name = name; word = at.word; kind = at.kind; lifted = at.lifted } in
    sym (words_declared name h.definition) ∙ place_type name
    (declared h.definition) at.place x h.declares refl type

pub schema_types : (definitions : List (Option Definition)) (results : List (Option Outcome)) (s : Schema)
    → AreResults no_names definitions results → AreFaultless results
    → IsSchemaOf definitions s → (name : List ℕ) → IsSome (id_named s name) ↔ IsTypeName definitions name
schema_types definitions results s are fine h name = (
  (λ some.
      let item = item_defining name definitions (sym (named_there definitions s name h) ∙ some) in
      let one = defined_declarer definitions name item.item item.definition item.there item.defines in
      record {
        at = one.at;
        first = only_declarer definitions results name one.at are fine one.declares;
        is_type = one.is_type;
      }),
  (λ t.
      let declares = t.first.declares in
      named_there definitions s name h
      ∙ defining_item name definitions t.at.item declares.definition declares.item_is
      (declares_defined definitions name t.at declares t.is_type)),
)
