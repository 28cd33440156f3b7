-- The names that definitions declare (RFC 4506, section 6.4).
use Rattle.std.specs.Prelude.{ℕ, Bool, List, [], ◌∷◌}
use Rattle.x_trees.specs.Tree as tree
use Rattle.x_trees.specs.Gloss.{Role, Declares, gloss, told_of}
use Rattle.x_trees.specs.declared.names.declared_name.NameKind.{NameKind}

-- a name, the word that declares it, counted from 0 among the words of its definition, what it is declared
-- as, and whether it is lifted: the name of an inline type
pub record Declared : Type 0 where
  pub name : List ℕ
  pub word : ℕ
  pub kind : NameKind
  pub lifted : Bool

-- the names that the word at a place declares, by its roles
abbrev pub declared_at : ℕ → List Role → List Declared
declared_at at [] = []
declared_at at (Declares name kind lifted ∷ roles) =
    record { name = name; word = at; kind = kind; lifted = lifted } ∷ declared_at at roles
declared_at at (role ∷ roles) = declared_at at roles

-- the names that a definition declares, in the order of their words; at one word its own name comes first
abbrev pub declared : tree.Definition → List Declared
declared d = told_of declared_at 0 (gloss d)
