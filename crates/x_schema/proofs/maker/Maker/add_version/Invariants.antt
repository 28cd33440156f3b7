use Rattle.std.proofs.Common.{map, take}
use Rattle.x_trees.specs.View.{view_procedure}
use Rattle.x_schema.specs.ProcedureMaking.{PutsProcedures}
use Rattle.x_schema.specs.ProceduresOf.{procedures_by}
use Rattle.x_schema.proofs.maker.Maker.add_version.Given as goal

abbrev pub invariant-loop-procedure : goal.invariant-loop-procedure
invariant-loop-procedure l =
    PutsProcedures l.known l.fn.self l.self l.fn.table.entries l.table.entries
    (procedures_by l.program l.version (map view_procedure (take l.procedure-index l.procedures)))
