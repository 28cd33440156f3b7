use Rattle.std.proofs.Common.{◌≡◌, drop, map, pos, Some}
use Rattle.x_trees.specs.View.{view_enumerator}
use Rattle.x_schema.specs.SchemaOf.{with_enumerators}
use Rattle.x_schema.proofs.constants.Constants.enumerators.Given as goal

-- with those that are left, the numbers are those with all

abbrev pub invariant-loop-enumerator : goal.invariant-loop-enumerator
invariant-loop-enumerator l =
    with_enumerators l.self l.next (map view_enumerator (drop l.enumerator-index l.enumerators))
    ≡ with_enumerators l.fn.self (Some (pos 0)) (map view_enumerator l.enumerators)
