-- The names that a text uses and nobody declares.
use Rattle.std.specs.Prelude.{ℕ, suc, Bool, not, ◌||◌, List, [], ◌∷◌, ◌++◌, map, Option, Some, None, is_some}
use Rattle.std.specs.Prelude.{if◌then◌else◌}
use Rattle.std.specs.List.{filter}
use Rattle.std.specs.Option.{option_or}
use Rattle.std.specs.Str.{bytes_eq}
use Rattle.x_trees.specs.Tree.{Definition}
use Rattle.x_trees.specs.Mentions.{Mention, mentioned}
use Rattle.x_trees.specs.declared.trees.declaration.Tag.{Tag}
use Rattle.x_names.specs.Declarers.{first_declarer, is_beforehand}
use Rattle.x_names.specs.declared.names.Declarer.{Declarer}
use Rattle.x_rules.specs.Results.{KnownNames}

-- a mention, and the number of the item that it stands in
pub record Occurrence : Type 0 where
  pub item : ℕ
  pub mention : Mention

abbrev pub name_of : Occurrence → List ℕ
name_of o = o.mention.name

-- the mentions of an item, in their order; one without a definition has none
abbrev pub occurrences_in : ℕ → Option Definition → List Occurrence
occurrences_in item None = []
occurrences_in item (Some d) = map (λ m. record { item = item; mention = m }) (mentioned d)

-- those of a text's definitions, of which the first has this number
abbrev pub occurrences_from : ℕ → List (Option Definition) → List Occurrence
occurrences_from item [] = []
occurrences_from item (d ∷ ds) = occurrences_in item d ++ occurrences_from (suc item) ds

-- A name is lacking that is not declared beforehand, not known before the text, and declared by no item: one
-- of which each item sees that it is undeclared (`undeclared_law`). So its mentions are the words that have
-- the fault 21, and no others are.
abbrev pub is_lacking : KnownNames → (List ℕ → Option Declarer) → List ℕ → Bool
is_lacking known first name = not (is_beforehand name || is_some (known name) || is_some (first name))

-- the mentions of names that are lacking
abbrev pub are_lacking : KnownNames → (List ℕ → Option Declarer) → List Occurrence → List Occurrence
are_lacking known first occurrences = filter (λ o. is_lacking known first (name_of o)) occurrences

-- those of a text, in their order
abbrev pub lacking : KnownNames → List (Option Definition) → List Occurrence
lacking known definitions =
    are_lacking known (first_declarer definitions) (occurrences_from 0 definitions)

-- the first mention of each name, in their order: the first of all, and of the others the first of each other
-- name
abbrev pub first_of_each : List Occurrence → List Occurrence
first_of_each [] = []
first_of_each (o ∷ os) = o ∷ filter (λ other. not (bytes_eq (name_of other) (name_of o))) (first_of_each os)

-- the first keyword in front of a name
abbrev pub first_tag : List ℕ → List Occurrence → Option Tag
first_tag name [] = None
first_tag name (o ∷ os) =
    option_or (if bytes_eq name (name_of o) then o.mention.tag else None) (first_tag name os)
