use Rattle.std.proofs.Common.{[], arith, sym, subst}
use Rattle.std.specs.Option.{option_map_or}
use Rattle.x_streams.specs.Writing.{Adds}
use Rattle.x_streams.proofs.Pens.{adds_trans}
use Rattle.x_pieces.specs.Pieces.{piece, lines_at, pieces_at}
use Rattle.x_pieces.specs.Texts.{part_text}
use Rattle.x_text.proofs.Listing.{lists_at}
use Rattle.x_pieces.proofs.PieceListLemmas.{part_at, some_added, none_added}
use Rattle.x_pieces.proofs.text.add_parts.Goals.{in-Some, in_default}
use Rattle.x_pieces.proofs.text.add_parts.Goals as goal

pub loop-index-preserved : goal.loop-index-preserved
loop-index-preserved g c =
    let parts = g.L.PieceList.parts c.args.list.now in
    let i = c.loop-index.index in
    let state = g.S.Sink.state in
    let mid = state c.loop-index.sink in
    let next = state c.add.new.sink in
    let end = state c.match-pieces.sink in
    let its = pieces_at parts i in
    let told : Adds c.add.new.self next c.match-pieces.pen end (option_map_or (piece c.args.which) its []) =
    elim c.match-pieces.branch [
      | in-Some w ↦ some_added state (piece c.args.which) c.pieces.result its w.in-Some.pieces
          w.piece.result.now c.add.new.self w.add-in-Some.new.self c.match-pieces.pen next
          w.add-in-Some.new.sink c.match-pieces.sink
          c.pieces.ensures w.in-Some.is w.piece.ensures w.pen-is w.sink-is w.add-in-Some.ensures
      | in_default w ↦ none_added state (piece c.args.which) c.pieces.result its c.add.new.self
          c.match-pieces.pen c.add.new.sink c.match-pieces.sink
          c.pieces.ensures w.in_default.is w.pen-is w.sink-is
    ] in
    let lines = subst (λ t. Adds c.loop-index.pen mid c.add.new.self next t) c.lines.ensures c.add.ensures in
    let both = adds_trans c.loop-index.pen c.add.new.self c.match-pieces.pen mid next end (lines_at parts i)
    (option_map_or (piece c.args.which) its []) lines told in
    lists_at (part_text c.args.which) parts i c.args.pen.now c.loop-index.pen c.match-pieces.pen
    (state c.args.sink.now) mid end
    (omega arith) c.loop-index.invariant (subst (λ t. Adds c.loop-index.pen mid c.match-pieces.pen end t)
    (sym (part_at c.args.which parts i)) both)
