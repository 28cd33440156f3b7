-- The definitions of a text, with the numbers of their items.
use Rattle.std.specs.Prelude.{ℕ, suc, List, [], ◌∷◌, Option, Some, None}
use Rattle.x_trees.specs.Tree.{Definition}

-- the definitions of items of which the first has this number, each with the number of its item
abbrev pub numbered : ℕ → List (Option Definition) → List (ℕ × Definition)
numbered item [] = []
numbered item (None ∷ ds) = numbered (suc item) ds
numbered item (Some d ∷ ds) = (item, d) ∷ numbered (suc item) ds
