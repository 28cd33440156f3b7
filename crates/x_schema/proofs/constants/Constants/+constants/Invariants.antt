use Rattle.std.proofs.Common.{◌≡◌, drop}
use Rattle.x_trees.specs.View.{view_declarations, view_arms}
use Rattle.x_schema.specs.SchemaOf.{with_declarations, with_arms}
use Rattle.x_schema.proofs.constants.Constants.+constants.Given as goal

-- with those that are left, the numbers are those with all

abbrev pub invariant-arms-loop-arm : goal.invariant-arms-loop-arm
invariant-arms-loop-arm l =
    with_arms l.self (view_arms (drop l.arm-index l.arms)) ≡ with_arms l.fn.self (view_arms l.arms)

abbrev pub invariant-declarations-loop-declaration : goal.invariant-declarations-loop-declaration
invariant-declarations-loop-declaration l =
    with_declarations l.self (view_declarations (drop l.declaration-index l.declarations))
    ≡ with_declarations l.fn.self (view_declarations l.declarations)
