use Rattle.std.proofs.Common.{map, take}
use Rattle.std.specs.List.{flat_map}
use Rattle.x_trees.specs.View.{view_version}
use Rattle.x_schema.specs.ProcedureMaking.{PutsProcedures}
use Rattle.x_schema.specs.ProceduresOf.{procedures_in}
use Rattle.x_schema.proofs.maker.Maker.add_versions.Given as goal

abbrev pub invariant-loop-version : goal.invariant-loop-version
invariant-loop-version l =
    PutsProcedures l.known l.fn.self l.self l.fn.table.entries l.table.entries
    (flat_map (procedures_in l.program) (map view_version (take l.version-index l.versions)))
