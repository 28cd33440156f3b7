use Rattle.std.proofs.Common.{◌≡◌, ◌++◌, drop, map, ◌+◌}
use Rattle.x_trees.specs.View.{view_argument}
use Rattle.x_pieces.specs.Procedures.{by_number}
use Rattle.x_pieces.proofs.procedures.add_others.Given as goal

-- those so far and those that are left
abbrev pub invariant-loop-index : goal.invariant-loop-index
invariant-loop-index g l =
    l.text.items ++ by_number (g.P.ArgumentPiece.piece l.piece) (l.index + 2)
    (map view_argument (drop l.index l.others))
    ≡ l.fn.text.items ++ by_number (g.P.ArgumentPiece.piece l.piece) 2 (map view_argument l.others)
