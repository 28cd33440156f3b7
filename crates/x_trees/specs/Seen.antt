-- The names that an item sees.
use Rattle.std.specs.Prelude.{ℕ, List, map, ◌++◌}
use Rattle.x_trees.specs.Tree.{Definition}
use Rattle.x_trees.specs.Names.{declared}
use Rattle.x_trees.specs.Mentions.{mentioned}

-- the names that an item sees: those that it declares, then those that it uses, in their orders
abbrev pub names_of : Definition → List (List ℕ)
names_of d = map (λ x. x.name) (declared d) ++ map (λ m. m.name) (mentioned d)
