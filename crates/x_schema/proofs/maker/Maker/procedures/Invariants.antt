use Rattle.std.proofs.Common.{[], map, take}
use Rattle.x_trees.specs.View.{tree_at}
use Rattle.x_schema.specs.ProcedureMaking.{PutsProcedures}
use Rattle.x_schema.specs.ProceduresOf.{procedures_of}
use Rattle.x_schema.proofs.maker.Maker.procedures.Given as goal

abbrev pub invariant-loop-definition : goal.invariant-loop-definition
invariant-loop-definition l =
    PutsProcedures l.known l.fn.self l.self [] l.table.entries
    (procedures_of (map tree_at (take l.definition-index l.definitions)))
