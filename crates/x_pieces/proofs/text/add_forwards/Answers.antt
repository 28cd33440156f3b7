use Rattle.std.proofs.Common.{[], arith, sym, subst}
use Rattle.std.specs.Option.{option_map_or}
use Rattle.x_streams.specs.Writing.{Adds}
use Rattle.x_pieces.specs.Pieces.{pieces_at}
use Rattle.x_pieces.specs.Texts.{forward_of}
use Rattle.x_text.proofs.Listing.{lists_at}
use Rattle.x_pieces.proofs.PieceListLemmas.{forward_at, some_added, none_added}
use Rattle.x_pieces.proofs.text.add_forwards.Goals.{in-Some, in_default}
use Rattle.x_pieces.proofs.text.add_forwards.Goals as goal

pub loop-index-preserved : goal.loop-index-preserved
loop-index-preserved g c =
    let parts = g.L.PieceList.parts c.args.list.now in
    let i = c.loop-index.index in
    let state = g.S.Sink.state in
    let mid = state c.loop-index.sink in
    let next = state c.loop-index.sink in
    let end = state c.match-pieces.sink in
    let its = pieces_at parts i in
    let told : Adds c.loop-index.pen next c.match-pieces.pen end (option_map_or (λ d. d.forward) its []) =
    elim c.match-pieces.branch [
      | in-Some w ↦ some_added state (λ d. d.forward) c.pieces.result its w.in-Some.pieces
          w.forward.result.now c.loop-index.pen w.add.new.self c.match-pieces.pen next w.add.new.sink
          c.match-pieces.sink
          c.pieces.ensures w.in-Some.is w.forward.ensures w.pen-is w.sink-is w.add.ensures
      | in_default w ↦ none_added state (λ d. d.forward) c.pieces.result its c.loop-index.pen
          c.match-pieces.pen c.loop-index.sink c.match-pieces.sink
          c.pieces.ensures w.in_default.is w.pen-is w.sink-is
    ] in
    lists_at forward_of parts i c.args.pen.now c.loop-index.pen c.match-pieces.pen
    (state c.args.sink.now) mid end
    (omega arith) c.loop-index.invariant
    (subst (λ t. Adds c.loop-index.pen mid c.match-pieces.pen end t) (sym (forward_at parts i)) told)
