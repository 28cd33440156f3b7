use Rattle.std.proofs.Common.{◌≡◌, drop, map}
use Rattle.x_trees.specs.View.{view_value}
use Rattle.x_schema.specs.SchemaOf.{with_cases}
use Rattle.x_schema.proofs.maker.add_cases.Given as goal

-- with those that are left, the cases are those with all

abbrev pub invariant-loop-value : goal.invariant-loop-value
invariant-loop-value l =
    with_cases l.constants l.form l.cases.entries (map view_value (drop l.value-index l.values)) l.arm
    ≡ with_cases l.constants l.form l.fn.cases.entries (map view_value l.values) l.arm
