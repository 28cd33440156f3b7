use Rattle.std.proofs.Common.{drop}
use Rattle.x_pieces.specs.Pieces.{Part}
use Rattle.x_pieces.specs.Texts.{forward_of}
use Rattle.x_text.proofs.Listing.{HasListed}
use Rattle.x_pieces.proofs.text.add_forwards.Given as goal

abbrev pub invariant-loop-index : goal.invariant-loop-index
invariant-loop-index g l = HasListed Part forward_of (g.L.PieceList.parts l.list)
    (drop l.index (g.L.PieceList.parts l.list))
    l.initial.pen (g.S.Sink.state l.initial.sink) l.pen (g.S.Sink.state l.sink)
