-- A name that a text uses and does not declare.
use Rattle.std.specs.Prelude.{ℕ, Bool, not, ◌&&◌, List, Option, is_some}
use Rattle.std.specs.List.{list_any}
use Rattle.x_trees.specs.Tree.{Definition}
use Rattle.x_names.specs.Declarers.{first_declarer}
use Rattle.x_uses.specs.Occurrences.{sees}

-- an item sees the name, and none declares it
abbrev pub is_lacking_name : List (Option Definition) → List ℕ → Bool
is_lacking_name definitions name =
    not (is_some (first_declarer definitions name)) && list_any (λ d. sees d name) definitions
