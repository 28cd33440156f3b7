use Rattle.std.proofs.Common.{[], length, arith, ap}
use Rattle.std.specs.Option.{option_map_or}
use Rattle.x_pieces.specs.Pieces.{pieces_at}
use Rattle.x_pieces.specs.Texts.{forward_of}
use Rattle.x_pieces.proofs.LengthLemmas.{IsCounted, length_more, some_counted, none_counted}
use Rattle.x_pieces.proofs.PieceListLemmas.{forward_at}
use Rattle.x_pieces.proofs.text.forwards_length.Goals.{in-Some, in_default}
use Rattle.x_pieces.proofs.text.forwards_length.Goals as goal

pub loop-index-preserved : goal.loop-index-preserved
loop-index-preserved g c =
    let parts = g.L.PieceList.parts c.args.list.now in
    let i = c.loop-index.index in
    let its = pieces_at parts i in
    let told : IsCounted c.loop-index.length c.match-pieces.length (option_map_or (λ d. d.forward) its []) =
    elim c.match-pieces.branch [
      | in-Some w ↦ some_counted (λ d. d.forward) c.pieces.result its w.in-Some.pieces w.forward.result.now
          c.loop-index.length c.match-pieces.length
          c.pieces.ensures w.in-Some.is w.forward.ensures w.length-is w.forward.type_inv.0
      | in_default w ↦ none_counted (λ d. d.forward) c.pieces.result its c.loop-index.length
          c.match-pieces.length c.pieces.ensures w.in_default.is w.length-is
    ] in
    let grown = length_more forward_of parts i (omega arith) in
    let same = ap length (forward_at parts i) in
    record { counted = omega arith; small = omega arith }
