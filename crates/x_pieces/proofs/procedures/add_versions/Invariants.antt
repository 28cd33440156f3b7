use Rattle.std.proofs.Common.{◌≡◌, ◌++◌, drop, map}
use Rattle.x_trees.specs.View.{view_version}
use Rattle.x_pieces.specs.Procedures.{version_pieces}
use Rattle.x_pieces.proofs.procedures.add_versions.Given as goal

-- those so far and those that are left
abbrev pub invariant-loop-version : goal.invariant-loop-version
invariant-loop-version g l =
    l.text.items ++ version_pieces (g.P.ProcedurePiece.piece l.piece)
    (map view_version (drop l.version-index l.versions))
    ≡ l.fn.text.items ++ version_pieces (g.P.ProcedurePiece.piece l.piece) (map view_version l.versions)
