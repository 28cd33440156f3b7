-- What is known of a definition by its words.
use Rattle.std.specs.Prelude.{◌≡◌, map}
use Rattle.x_trees.specs.Tree as tree
use Rattle.x_trees.specs.View.{view_definition}
use Rattle.x_trees.specs.Collected.{view_mention, view_name}
use Rattle.x_trees.specs.Names.{declared}
use Rattle.x_trees.specs.Mentions.{mentioned}
use Rattle.x_trees.specs.Notes.{view_note_at, noted}
use Rattle.x_trees.specs.Spell.{IsShort}
use Rattle.x_outline.specs.Bodies.{bodies}
use Rattle.x_outline.specs.BodyWalks.{view_body_at, AreFilled}
use Rattle.x_outline.specs.declared.outline.Outline.{Outline}

-- the definition that is outlined
abbrev pub outlined : Outline → tree.Definition
outlined o = view_definition o.definition.now

-- An outline has the names that the definition declares and uses, its bodies, and what its words are to the
-- rules.
pub record IsOutline (o : Outline) : Type 0 where
  pub short : IsShort (outlined o)
  pub names_are : map view_name o.declared.items ≡ declared (outlined o)
  pub uses_are : map view_mention o.mentioned.items ≡ mentioned (outlined o)
  pub bodies_are : map view_body_at o.bodies.items ≡ bodies (outlined o)
  pub filled : AreFilled o.bodies.items
  pub notes_are : map view_note_at o.notes.items ≡ noted (outlined o)
