use Rattle.std.proofs.Common.{◌≡◌, ◌++◌, drop, map}
use Rattle.std.specs.List.{flat_map}
use Rattle.x_trees.specs.View.{view_procedure, view_version}
use Rattle.x_pieces.specs.Procedures.{by_names}
use Rattle.x_pieces.proofs.procedures.add_procedures.Given as goal

-- those so far and those that are left
abbrev pub invariant-loop-procedure : goal.invariant-loop-procedure
invariant-loop-procedure g l =
    l.text.items ++ flat_map (by_names (g.P.ProcedurePiece.piece l.piece) (view_version l.version))
    (map view_procedure (drop l.procedure-index l.procedure-items))
    ≡ l.fn.text.items ++ flat_map (by_names (g.P.ProcedurePiece.piece l.piece) (view_version l.version))
    (map view_procedure l.version.procedures.items)
