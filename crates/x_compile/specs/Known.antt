-- Definitions that are known before a text: nothing is generated of them, and they come before all its items.
use Rattle.std.specs.Prelude.{ℕ, List, [], Option, map, option_map}
use Rattle.x_trees.specs.Tree as tree
use Rattle.x_trees.specs.View.{view_definition}
use Rattle.x_trees.specs.declared.trees.definition.Definition.{Definition}
use Rattle.x_names.specs.Declarers.{first_declarer}
use Rattle.x_rules.specs.Results.{KnownNames, Outcome, meaning_at, result_at}
use Rattle.x_rules.specs.Views.{Earlier}

-- the definitions of a text, an item each, and what checking them gives
pub record KnownText : Type 0 where
  pub definitions : List (Option Definition)
  pub outcomes : List (Option Outcome)

abbrev pub nothing_known : KnownText
nothing_known = record { definitions = []; outcomes = [] }

abbrev pub known_definitions : KnownText → List (Option tree.Definition)
known_definitions known = map (option_map view_definition) known.definitions

-- what an item of a text sees of a name that these definitions declare, by what checking them gives: an
-- earlier item declares it
abbrev pub names_known : List (Option tree.Definition) → (ℕ → Option Outcome) → KnownNames
names_known definitions results name =
    option_map (λ at. Earlier at.kind at.lifted (meaning_at results at)) (first_declarer definitions name)

abbrev pub known_names : KnownText → KnownNames
known_names known = names_known (known_definitions known) (result_at known.outcomes)
