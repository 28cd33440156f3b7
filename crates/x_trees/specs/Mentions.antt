-- The names that definitions use (RFC 4506, section 6.4).
use Rattle.std.specs.Prelude.{ℕ, List, [], ◌∷◌, Option}
use Rattle.x_trees.specs.Tree as tree
use Rattle.x_trees.specs.Gloss.{Role, Mentions, gloss, told_of}
use Rattle.x_trees.specs.declared.trees.declaration.Tag.{Tag}
use Rattle.x_trees.specs.declared.names.mention.Use.{Use}

-- a name, the word where it stands, counted from 0 among the words of its definition, what it is used as, and
-- the keyword in front of it
pub record Mention : Type 0 where
  pub name : List ℕ
  pub word : ℕ
  pub usage : Use
  pub tag : Option Tag

-- the names that the word at a place uses, by its roles
abbrev pub mentioned_at : ℕ → List Role → List Mention
mentioned_at at [] = []
mentioned_at at (Mentions name usage tag ∷ roles) =
    record { name = name; word = at; usage = usage; tag = tag } ∷ mentioned_at at roles
mentioned_at at (role ∷ roles) = mentioned_at at roles

-- the names that a definition uses, in the order of their words
abbrev pub mentioned : tree.Definition → List Mention
mentioned d = told_of mentioned_at 0 (gloss d)
