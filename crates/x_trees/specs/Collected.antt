-- What a walk over a definition has found.
use Rattle.std.specs.Prelude.{◌≡◌, ℕ, ◌+◌, ◌^◌, ◌<◌, true, List, [], ◌∷◌, ◌++◌, Option, Some, None, length}
use Rattle.std.specs.Prelude.{map}
use Rattle.std.specs.Cow.{cow_slice_items}
use Rattle.x_trees.specs.Gloss as gloss
use Rattle.x_trees.specs.Gloss.{Role, Gloss, told_of}
use Rattle.x_trees.specs.Tree as tree
use Rattle.x_trees.specs.Names.{Declared, declared_at, declared}
use Rattle.x_trees.specs.Mentions as uses
use Rattle.x_trees.specs.Mentions.{mentioned_at, mentioned}
use Rattle.x_trees.specs.Notes.{NoteAt, noted_at, noted, view_note_at}
use Rattle.x_trees.specs.Spell.{spell}
use Rattle.x_trees.specs.declared.names.declared_name.DeclaredName.{DeclaredName}
use Rattle.x_trees.specs.declared.names.mention.Mention.{Mention}
use Rattle.x_trees.specs.declared.names.note.ValueRole.{ValueRole}
use Rattle.x_trees.specs.declared.names.note.ValueRole.TheVariants as roles
use Rattle.x_trees.specs.declared.names.glossary.Site.{Site}
use Rattle.x_trees.specs.declared.names.glossary.Site.TheVariants as sites
use Rattle.x_trees.specs.declared.names.glossary.Lifted.{Lifted}
use Rattle.x_trees.specs.declared.names.glossary.Walk.{Walk}

abbrev pub view_name : DeclaredName → Declared
view_name d = record { name = cow_slice_items d.name; word = d.word; kind = d.kind; lifted = d.lifted }

abbrev pub view_mention : Mention → uses.Mention
view_mention m = record { name = m.name.now; word = m.word; usage = m.usage; tag = m.tag }

-- ---- one list

-- the word to which a walk has come, and what it has found on its way
pub record Walked (A : Type 0) : Type 0 where
  pub word : ℕ
  pub list : List A

-- The walk has gone over n words more, and found these from the word on where it was. Of a walk that comes to
-- 2^64 words nothing is said.
pub record Covers {A : Type 0} (from to : Walked A) (n : ℕ) (found : ℕ → List A) : Type 0 where
  pub word : from.word + n < 2 ^ 64 → to.word ≡ from.word + n
  pub list : from.word + n < 2 ^ 64 → to.list ≡ from.list ++ found from.word

-- the walk has gone over these words, and found what is told of them
pub record CoversAll {A : Type 0} (tell : ℕ → List Role → List A) (from to : Walked A)
    (words : List Gloss) : Type 0 where
  pub all : Covers from to (length words) (λ k. told_of tell k words)

-- ---- the three lists of a glossary

abbrev pub declared_by : Walk → Walked Declared
declared_by w = record { word = w.word; list = map view_name w.glossary.declared.items }

abbrev pub mentioned_by : Walk → Walked uses.Mention
mentioned_by w = record { word = w.word; list = map view_mention w.glossary.mentioned.items }

abbrev pub noted_by : Walk → Walked NoteAt
noted_by w = record { word = w.word; list = map view_note_at w.glossary.notes.items }

-- the walk has gone over n words more, and found these
pub record Finds (from to : Walk) (n : ℕ) (names : ℕ → List Declared) (mentions : ℕ → List uses.Mention)
    (notes : ℕ → List NoteAt) : Type 0 where
  pub names_in : Covers (declared_by from) (declared_by to) n names
  pub mentions_in : Covers (mentioned_by from) (mentioned_by to) n mentions
  pub notes_in : Covers (noted_by from) (noted_by to) n notes

-- the walk has gone over these words, and found what they are
pub record Reads (from to : Walk) (words : List Gloss) : Type 0 where
  pub names_in : CoversAll declared_at (declared_by from) (declared_by to) words
  pub mentions_in : CoversAll mentioned_at (mentioned_by from) (mentioned_by to) words
  pub notes_in : CoversAll noted_at (noted_by from) (noted_by to) words

-- once the walk has gone over the rest, it has gone over all words
pub record ReadsOn (from at : Walk) (all rest : List Gloss) : Type 0 where
  pub by : (to : Walk) → Reads at to rest → Reads from to all

-- a walk from the first word on has found all that there is in the definition
pub record ReadsAll (from to : Walk) (d : tree.Definition) : Type 0 where
  pub declared_are : from.word ≡ 0 → from.glossary.declared.items ≡ [] → length (spell d) < 2 ^ 64
      → map view_name to.glossary.declared.items ≡ declared d
  pub mentioned_are : from.word ≡ 0 → from.glossary.mentioned.items ≡ [] → length (spell d) < 2 ^ 64
      → map view_mention to.glossary.mentioned.items ≡ mentioned d
  pub noted_are : from.word ≡ 0 → from.glossary.notes.items ≡ [] → length (spell d) < 2 ^ 64
      → map view_note_at to.glossary.notes.items ≡ noted d

-- ---- what the walk is told

-- the site, inside the type of the name if it is inside a type
abbrev pub site_in : Site → List ℕ → gloss.Site
site_in sites.Typedef around = gloss.InTypedef
site_in sites.Field around = gloss.Inside gloss.AsField around
site_in sites.Discriminant around = gloss.Inside gloss.AsDiscriminant around
site_in sites.Arm around = gloss.Inside gloss.AsArm around

-- the role of a value
abbrev pub role_of : ValueRole → tree.Value → Role
role_of roles.Constant v = gloss.ConstantValue v
role_of roles.Enumerator v = gloss.EnumeratorValue v
role_of roles.Case v = gloss.CaseValue v
role_of roles.FixedSize v = gloss.FixedSize v
role_of roles.GreatestSize v = gloss.GreatestSize v

-- what the name of a declaration declares beside, where it is that of an inline type
abbrev pub roles_of_lifted : Option Lifted → List Role
roles_of_lifted None = []
roles_of_lifted (Some l) = gloss.Declares l.name.items l.kind true ∷ []

-- a type that is no inline one
abbrev pub IsOutside : tree.DataType → Type 0
IsOutside (tree.Inline body) = ⊥
IsOutside type = Unit {0}
