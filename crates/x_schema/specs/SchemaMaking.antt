-- What the maker of a schema does, told of every schema that it may end with: what it has put stays where it
-- is.
use Rattle.std.specs.Prelude.{◌≡◌, ℕ, ◌<◌, ◌≤◌, ◌^◌, IsTrue, List, [], ◌∷◌, ◌++◌, map, length, Option, Some}
use Rattle.std.specs.Map.{lookup}
use Rattle.std.specs.Str.{bytes_eq}
use Rattle.x_trees.specs.Tree as tree
use Rattle.std.proofs.Common.{get_or}
use Rattle.x_schema.specs.Schema.{Schema, form_at, name_at}
use Rattle.x_schema.specs.SchemaOf.{Known, Types, AreNamed, AreTypesOf, place_named, with_first}
use Rattle.x_schema.specs.Sound.{IsSoundForm, IsSoundArm, is_legal}
use Rattle.x_schema.specs.declared.form.Arm.{Arm}
use Rattle.x_schema.specs.declared.form.Form.{Form}
use Rattle.x_schema.specs.declared.form.Form.TheVariants as forms
use Rattle.x_schema.specs.declared.maker.Link.{Link}
use Rattle.x_schema.specs.declared.maker.Link.TheVariants as links
use Rattle.x_schema.specs.declared.maker.Maker.{Maker}
use Rattle.x_schema.specs.declared.schema.NamedType.{NamedType}

abbrev pub names_made : Maker → List (List ℕ)
names_made m = map (λ n. n.items) m.names.items

-- the place that a link leads to, where these are the types of the text
abbrev pub place_linked : Types → Link → ℕ
place_linked types (links.To place) = place
place_linked types (links.Named name) = place_named types name.now

pub record IsFront {A : Type 0} (front all : List A) : Type 0 where
  pub rest : List A
  pub is : all ≡ front ++ rest

-- the maker may end with the schema
pub record Completes (m : Maker) (s : Schema) : Type 0 where
  pub names : IsFront (names_made m) s.names
  pub forms : IsFront m.forms.items s.forms
  pub links : IsFront (map (place_linked s.types) m.links.items) s.links

-- so many names and forms or more were put, and the maker may end with the schema
pub record Behind (m : Maker) (n i : ℕ) (s : Schema) : Type 0 where
  pub names : length m.names.items ≤ n
  pub forms : length m.forms.items ≤ i
  pub completes : Completes m s

abbrev pub AreLinksWithin : ℕ → List Link → Type 0
AreLinksWithin i [] = Unit {0}
AreLinksWithin i (links.To place ∷ ls) = (place < i) × AreLinksWithin i ls
AreLinksWithin i (links.Named name ∷ ls) = AreLinksWithin i ls

abbrev pub IsWithin : ℕ → ℕ → NamedType → Type 0
IsWithin n i t = (t.form < i) × (t.name < n)

abbrev pub AreWithin : ℕ → ℕ → List NamedType → Type 0
AreWithin n i [] = Unit {0}
AreWithin n i (t ∷ ts) = IsWithin n i t × AreWithin n i ts

-- what was put is sound
pub record IsGood (types : Types) (m : Maker) : Type 0 where
  pub void : IsFront (forms.Void ∷ []) m.forms.items
  pub sound : (s : Schema) → Completes m s → (i : ℕ) → i < length m.forms.items
      → IsSoundForm s i (form_at s i)
  pub links : AreLinksWithin (length m.forms.items) m.links.items
  pub within : (name : List ℕ) (t : NamedType) → lookup (bytes_eq name) types ≡ Some t
      → IsWithin (length m.names.items) (length m.forms.items) t

-- The maker has put something: what is told of it, and of the types that these typedefs stand for, holds of
-- every schema behind.
pub record Puts (known : Known) (old new : Maker) (typedefs : List tree.Declaration)
    (Is : ℕ → ℕ → Schema → Type 0) : Type 0 where
  pub behind : (n i : ℕ) (s : Schema) → Behind new n i s → Behind old n i s
  pub longer : length old.forms.items ≤ length new.forms.items
  pub good : IsGood known.types new
  pub found : List NamedType
  pub adds : new.found.items ≡ old.found.items ++ found
  pub named : (n i : ℕ) (s : Schema) → Behind new n i s
      → AreNamed s known typedefs found × AreWithin n i found
  pub is : (n i : ℕ) (s : Schema) → Behind new n i s → Is n i s

-- ---- single steps

-- nothing but `void`
pub record IsStart (m : Maker) : Type 0 where
  pub names : m.names.items ≡ []
  pub forms : m.forms.items ≡ forms.Void ∷ []
  pub links : m.links.items ≡ []
  pub found : m.found.items ≡ []

pub record AddsName (old new : Maker) (name : List ℕ) (index : ℕ) : Type 0 where
  pub index_is : index ≡ length old.names.items
  pub names : names_made new ≡ names_made old ++ name ∷ []
  pub forms : new.forms.items ≡ old.forms.items
  pub links : new.links.items ≡ old.links.items
  pub found : new.found.items ≡ old.found.items

pub record AddsForm (old new : Maker) (form : Form) (place : ℕ) : Type 0 where
  pub place_is : place ≡ length old.forms.items
  pub names : names_made new ≡ names_made old
  pub forms : new.forms.items ≡ old.forms.items ++ form ∷ []
  pub links : new.links.items ≡ old.links.items
  pub found : new.found.items ≡ old.found.items

pub record AddsLink (old new : Maker) (link : Link) (place : ℕ) : Type 0 where
  pub place_is : place ≡ length old.links.items
  pub names : names_made new ≡ names_made old
  pub forms : new.forms.items ≡ old.forms.items
  pub links : new.links.items ≡ old.links.items ++ link ∷ []
  pub found : new.found.items ≡ old.found.items

pub record AddsFound (old new : Maker) (name : List ℕ) (place : ℕ) : Type 0 where
  pub names : names_made new ≡ names_made old ++ name ∷ []
  pub forms : new.forms.items ≡ old.forms.items
  pub links : new.links.items ≡ old.links.items
  pub found : new.found.items ≡ old.found.items ++ record { name = length old.names.items; form = place } ∷ []

-- ---- several steps, from a sound state

abbrev pub PutsAll : Known → Maker → Maker → List tree.Declaration → (ℕ → ℕ → Schema → Type 0) → Type 0
PutsAll known old new typedefs Is = IsGood known.types old → Puts known old new typedefs Is

abbrev pub PutsPlace : Known → Maker → Maker → List tree.Declaration → ℕ → (Schema → ℕ → Type 0) → Type 0
PutsPlace known old new typedefs place Is = PutsAll known old new typedefs (λ n i s. Is s place × (place < i))

abbrev pub PutsLink : Known → Maker → Maker → List tree.Declaration → ℕ → (Schema → ℕ → Type 0) → Type 0
PutsLink known old new typedefs link Is =
    PutsAll known old new typedefs (λ n i s. Is s link × (link < length s.links))

-- the words of an enum with their names
abbrev pub words_named : Schema → List (ℕ × ℕ) → List (ℕ × List ℕ)
words_named s entries = map (λ e. (e.0, name_at s e.1)) entries

abbrev pub AreSoundWords : ℕ → List (ℕ × ℕ) → Type 0
AreSoundWords n [] = Unit {0}
AreSoundWords n (e ∷ es) = (e.0 < 2 ^ 32) × (e.1 < n) × AreSoundWords n es

-- the cases of a discriminant of the form
abbrev pub AreSoundCases : ℕ → ℕ → Form → List (ℕ × Arm) → Type 0
AreSoundCases n i form [] = Unit {0}
AreSoundCases n i form (e ∷ es) =
    (e.0 < 2 ^ 32) × IsTrue (is_legal form e.0) × IsSoundArm n i e.1 × AreSoundCases n i form es

-- types with others behind them, by their names; the first of a name has it
abbrev pub with_found : List (List ℕ) → Types → List NamedType → Types
with_found names types [] = types
with_found names types (t ∷ ts) = with_found names (with_first bytes_eq types (get_or names t.name []) t) ts

-- The types that the items declare stand behind those before them, in every schema that the maker may end
-- with.
pub record FindsItems (old new : Maker) (before after : Known)
    (definitions : List (Option tree.Definition)) : Type 0 where
  pub numbers : after.numbers ≡ before.numbers
  pub good : old.found.items ≡ [] → IsGood before.types old
      → IsGood after.types new × (new.found.items ≡ [])
  pub behind : old.found.items ≡ [] → IsGood before.types old → (n i : ℕ) (s : Schema)
      → Behind new n i s → Behind old n i s
  pub types : old.found.items ≡ [] → IsGood before.types old → (n i : ℕ) (s : Schema)
      → Behind new n i s
      → (rest : List (Option tree.Definition))
      → AreTypesOf s before.numbers after.types rest
      → AreTypesOf s before.numbers before.types (definitions ++ rest)

abbrev pub FindsItem : Maker → Maker → Known → Known → Option tree.Definition → Type 0
FindsItem old new before after definition = FindsItems old new before after (definition ∷ [])

-- the types of an item are taken in by their names
pub record TakesFound (old new : Maker) (before after : Types) : Type 0 where
  pub names : names_made new ≡ names_made old
  pub forms : new.forms.items ≡ old.forms.items
  pub links : new.links.items ≡ old.links.items
  pub found : new.found.items ≡ []
  pub types : after ≡ with_found (names_made old) before old.found.items
