-- The names that a text takes from C and that are no types in the table, with the places where it uses them.
use Rattle.std.specs.Prelude.{◌≡◌, ℕ, List, [], ◌∷◌, Option, Some, None, option_map, if◌then◌else◌}
use Rattle.std.specs.List.{flat_map}
use Rattle.x_compile.specs.Compile.{Item, definitions_of}
use Rattle.x_compile.specs.Known.{KnownText, known_names}
use Rattle.x_rules.specs.Results.{KnownNames}
use Rattle.x_session.specs.DeclaredNames.{spot_at, word_of_item}
use Rattle.x_session.specs.Foreign.{ForeignName}
use Rattle.x_session.specs.declared.declared.Spot.{Spot}
use Rattle.x_prelude.specs.Before.{IsKnownOf}
use Rattle.x_prelude.specs.Lacking.{Occurrence, first_of_each, lacking, name_of}
use Rattle.x_prelude.specs.Prelude.{is_type}
use Rattle.x_prelude.specs.declared.definition.FromC.{FromC}

-- the place of a mention
abbrev pub spot_of : List ℕ → List Item → Occurrence → Option Spot
spot_of text items o =
    option_map (λ t. spot_at text t.start) (word_of_item items o.item o.mention.word)

abbrev pub told_at : List ℕ → Option Spot → List ForeignName
told_at name None = []
told_at name (Some spot) = record { name = name; spot = spot } ∷ []

-- a name where it is used first, unless it is a type of C
abbrev pub foreign_at : FromC → List ℕ → List Item → Occurrence → List ForeignName
foreign_at from text items o =
    if is_type from (name_of o) then [] else told_at (name_of o) (spot_of text items o)

-- those of a text with these items, in the order in which it uses them first
abbrev pub foreign_names : FromC → KnownNames → List ℕ → List Item → List ForeignName
foreign_names from known text items =
    if from.foreign then flat_map (foreign_at from text items)
    (first_of_each (lacking known (definitions_of items))) else []

-- these are the names behind known files
abbrev pub AreForeign : (files : List ℕ) → FromC → (text : List ℕ) → List Item → List ForeignName → Type 0
AreForeign files from text items names =
    (known : KnownText) × IsKnownOf files known × (names ≡ foreign_names from (known_names known) text items)
