-- The names in a schema's table of types are those that the typedefs of its items have.
use Rattle.std.proofs.Common.{◌≡◌, ℕ, Bool, true, false, ◌||◌, is_some, cond, List, [], ◌∷◌, ◌++◌, Option}
use Rattle.std.proofs.Common.{None, Some, refl, sym, ap, ◌∙◌}
use Rattle.std.specs.Map.{lookup}
use Rattle.std.specs.Option.{option_or}
use Rattle.std.specs.Str.{bytes_eq}
use Rattle.std.proofs.lemmas.Slice.Eq.{bytes_eq-Decides}
use Rattle.x_numbers.proofs.Lookups.{lookup_more}
use Rattle.x_trees.specs.Tree as tree
use Rattle.x_schema.specs.Schema.{Schema, name_at}
use Rattle.x_schema.specs.SchemaOf.{Known, Types, Numbers, AreNamed, AreTypesOf, typedefs, with_first}
use Rattle.x_schema.specs.SchemaOf.{with_types}
use Rattle.x_schema.specs.declared.schema.NamedType.{NamedType}
use Rattle.x_laws.proofs.TypeWords.{is_defined, or_false}

abbrev pub is_there : Types → List ℕ → Bool
is_there types n = is_some (lookup (bytes_eq n) types)

pub or_same : (a b : Bool) → (b ≡ true → a ≡ true) → a ≡ a || b
or_same true b h = refl
or_same false true h = h refl
or_same false false h = refl

pub or_assoc : (a b c : Bool) → (a || b) || c ≡ a || (b || c)
or_assoc true b c = refl
or_assoc false b c = refl

some_or : (o : Option NamedType) (b : Bool) (x : NamedType)
    → is_some (option_or o (cond b (Some x) None)) ≡ is_some o || b
some_or None true x = refl
some_or None false x = refl
some_or (Some y) b x = refl

first_there : (types : Types) (k : List ℕ) (x : NamedType) (n : List ℕ)
    → is_there (with_first bytes_eq types k x) n ≡ is_there types n || bytes_eq n k
first_there types k x n = by (is_there types k) refl
  where
    by : (b : Bool) → is_there types k ≡ b → is_there
        (cond b types (types ++ (k, x) ∷ [])) n ≡ is_there types n || bytes_eq n k
    by true e = or_same (is_there types n) (bytes_eq n k)
        (λ same. ap (is_there types) ((bytes_eq-Decides n k).0 same) ∙ e)
    by false e = ap is_some (lookup_more (bytes_eq n) types k x)
        ∙ some_or (lookup (bytes_eq n) types) (bytes_eq n k) x

abbrev is_named : Schema → List ℕ → List NamedType → Bool
is_named s n [] = false
is_named s n (t ∷ ts) = bytes_eq n (name_at s t.name) || is_named s n ts

pub types_there : (s : Schema) (types : Types) (ts : List NamedType) (n : List ℕ)
    → is_there (with_types s types ts) n ≡ is_there types n || is_named s n ts
types_there s types [] n = sym (or_false (is_there types n))
types_there s types (t ∷ ts) n =
    types_there s (with_first bytes_eq types (name_at s t.name) t) ts n
    ∙ ap (λ b. b || is_named s n ts) (first_there types (name_at s t.name) t n)
    ∙ or_assoc (is_there types n) (bytes_eq n (name_at s t.name)) (is_named s n ts)

pub named_defined : (s : Schema) (known : Known) (ds : List tree.Declaration) (found : List NamedType)
    (n : List ℕ) → AreNamed s known ds found → is_named s n found ≡ is_defined n ds
named_defined s known [] found n h = ap (is_named s n) h
named_defined s known (d ∷ ds) found n h =
    let rest = named_defined s known ds h.1 n h.5 in
    ap (is_named s n) h.2 ∙ (λ i. bytes_eq n (h.3 i) || rest i)

-- one of the items defines the name
abbrev pub is_in_items : List ℕ → List (Option tree.Definition) → Bool
is_in_items n [] = false
is_in_items n (d ∷ ds) = is_defined n (typedefs d) || is_in_items n ds

pub items_there : (s : Schema) (numbers : Numbers) (types : Types) (ds : List (Option tree.Definition))
    (n : List ℕ) → AreTypesOf s numbers types ds
    → is_there s.types n ≡ is_there types n || is_in_items n ds
items_there s numbers types [] n h = ap (λ t. is_there t n) h ∙ sym (or_false (is_there types n))
items_there s numbers types (d ∷ ds) n h =
    let one = named_defined s (record { numbers = numbers; types = types }) (typedefs d) h.0 n h.1 in
    items_there s numbers (with_types s types h.0) ds n h.2
    ∙ ap (λ b. b || is_in_items n ds) (types_there s types h.0 n ∙ ap (λ b. is_there types n || b) one)
    ∙ or_assoc (is_there types n) (is_defined n (typedefs d)) (is_in_items n ds)
