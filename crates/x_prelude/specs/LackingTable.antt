-- The tables of the names that a text lacks.
use Rattle.std.specs.Prelude.{◌≡◌, ℕ, List, map}
use Rattle.std.specs.Borrow.{Bor}
use Rattle.std.specs.Map.{lookup}
use Rattle.std.specs.Str.{bytes_eq}
use Rattle.x_trees.specs.Collected.{view_mention}
use Rattle.x_trees.specs.declared.names.mention.Mention as mention
use Rattle.x_trees.specs.declared.trees.declaration.Tag.{Tag}
use Rattle.x_prelude.specs.Lacking.{Occurrence, first_of_each, first_tag, name_of}
use Rattle.x_prelude.specs.declared.lacking.FirstUse as rust
use Rattle.x_prelude.specs.declared.lacking.LackingNames.{LackingNames}

-- a mention of an item
abbrev pub occurrence : ℕ → mention.Mention → Occurrence
occurrence item m = record { item = item; mention = view_mention m }

abbrev pub view_use : rust.FirstUse → Occurrence
view_use u = occurrence u.item u.mention

abbrev pub Entries : Type 0
Entries = List (Bor (List ℕ) × rust.FirstUse)

-- the mentions that it has
abbrev pub held : Entries → List Occurrence
held entries = map (λ e. view_use e.1) entries

-- it has the first mention of each name among these mentions, by that name
pub record HasFirsts (entries : Entries) (all : List Occurrence) : Type 0 where
  pub held_are : held entries ≡ first_of_each all
  pub names_are : map (λ e. e.0.now) entries ≡ map name_of (first_of_each all)

-- it has the first keyword of each name that has one
abbrev pub HasTags : List (Bor (List ℕ) × Tag) → List Occurrence → Type 0
HasTags tags all = (name : List ℕ) → lookup (λ k. bytes_eq name k.now) tags ≡ first_tag name all

-- both are those of these mentions
pub record HasNames (names : LackingNames) (all : List Occurrence) : Type 0 where
  pub firsts : HasFirsts names.firsts.entries all
  pub tags : HasTags names.tags.entries all
