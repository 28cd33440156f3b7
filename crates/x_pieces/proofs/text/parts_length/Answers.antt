use Rattle.std.proofs.Common.{◌+◌, [], length, arith, ap}
use Rattle.std.specs.Option.{option_map_or}
use Rattle.x_pieces.specs.Pieces.{piece, pieces_at}
use Rattle.x_pieces.specs.Texts.{part_text}
use Rattle.x_pieces.proofs.LengthLemmas.{IsCounted, length_more, some_counted, none_counted}
use Rattle.x_pieces.proofs.PieceListLemmas.{part_length}
use Rattle.x_pieces.proofs.text.parts_length.Goals.{in-Some, in_default}
use Rattle.x_pieces.proofs.text.parts_length.Goals as goal

pub loop-index-preserved : goal.loop-index-preserved
loop-index-preserved g c =
    let parts = g.L.PieceList.parts c.args.list.now in
    let i = c.loop-index.index in
    let its = pieces_at parts i in
    let told : IsCounted (c.loop-index.length + length c.lines.result.now) c.match-pieces.length
    (option_map_or (piece c.args.which) its []) =
    elim c.match-pieces.branch [
      | in-Some w ↦ some_counted (piece c.args.which) c.pieces.result its w.in-Some.pieces w.piece.result.now
          (c.loop-index.length + length c.lines.result.now) c.match-pieces.length
          c.pieces.ensures w.in-Some.is w.piece.ensures w.length-is w.piece.type_inv.0
      | in_default w ↦ none_counted (piece c.args.which) c.pieces.result its
          (c.loop-index.length + length c.lines.result.now) c.match-pieces.length c.pieces.ensures
          w.in_default.is w.length-is
    ] in
    let grown = length_more (part_text c.args.which) parts i (omega arith) in
    let same = part_length c.args.which parts i in
    let lines = ap length c.lines.ensures in
    let few = c.lines.type_inv.0 in
    record { counted = omega arith; small = omega arith }
