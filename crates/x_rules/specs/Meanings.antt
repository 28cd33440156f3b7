-- What the program makes of the names that an item declares.
use Rattle.std.specs.Prelude.{ℕ, suc, nat_eq, List, [], ◌∷◌, Option, Some, None, if◌then◌else◌}
use Rattle.x_trees.specs.Tree as tree
use Rattle.x_outline.specs.Bodies.{BodyAt}
use Rattle.x_rules.specs.Constants.{Known}
use Rattle.x_rules.specs.Results.{type_of}
use Rattle.x_rules.specs.Tables.{capped}
use Rattle.x_rules.specs.Types.{body_class, declaration_class, body_height, held_height}
use Rattle.x_rules.specs.Views.{View, Meaning, Bad}

-- ---- bodies by the words that name their types

-- the first of these bodies whose type's name stands at the word
abbrev pub body_named : List BodyAt → ℕ → Option BodyAt
body_named [] word = None
body_named (b ∷ bs) word = if nat_eq word b.named then Some b else body_named bs word

-- ---- types, their heights as far as they are counted

abbrev pub counted_type : (List ℕ → View) → List Known → Option BodyAt → Meaning
counted_type see known None = Bad
counted_type see known (Some b) = type_of (body_class known b.body) (capped (body_height see b.body))

abbrev pub counted_definition : (List ℕ → View) → List Known → tree.Definition → Meaning
counted_definition see known (tree.Typedef d) =
    type_of (declaration_class see known d) (capped (suc (held_height see d)))
counted_definition see known d = Bad
