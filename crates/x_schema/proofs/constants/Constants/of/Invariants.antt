use Rattle.std.proofs.Common.{◌≡◌, drop, map}
use Rattle.x_trees.specs.View.{tree_at}
use Rattle.x_schema.specs.SchemaOf.{with_definitions, numbers_of}
use Rattle.x_schema.proofs.constants.Constants.of.Given as goal

-- with the items that are left, the numbers are those of all

abbrev pub invariant-loop-definition : goal.invariant-loop-definition
invariant-loop-definition l =
    with_definitions l.constants (map tree_at (drop l.definition-index l.definitions))
    ≡ numbers_of (map tree_at l.definitions)
