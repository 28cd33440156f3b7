use Rattle.std.proofs.Common.{drop, map}
use Rattle.x_trees.specs.View.{view_argument, view_passed}
use Rattle.x_schema.proofs.ProcedureLemmas.{FieldsPut}
use Rattle.x_schema.proofs.maker.Maker.argument_fields.Given as goal

abbrev pub invariant-loop-other : goal.invariant-loop-other
invariant-loop-other l =
    FieldsPut l.known l.fn.self l.self (view_passed l.first) l.fields.items
    (map view_argument (drop l.other-index l.others)) (map view_argument l.others)
