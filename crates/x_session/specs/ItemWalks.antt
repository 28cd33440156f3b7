-- What is found in the items of a text, one after another.
use Rattle.std.specs.Prelude.{List, [], ◌∷◌, Option}
use Rattle.x_lex.specs.Places.{Lexeme}
use Rattle.x_trees.specs.Tree.{Definition}
use Rattle.x_compile.specs.Compile.{Item, parsed_definition}

-- what a step finds in each item, by its tokens and by its definition, on top of what was found before it
abbrev pub over_items : {S : Type 0} → (S → List Lexeme → Option Definition → S) → S → List Item → S
over_items step found [] = found
over_items step found (i ∷ is) = over_items step (step found i.tokens (parsed_definition i.parse)) is
