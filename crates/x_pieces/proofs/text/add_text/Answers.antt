use Rattle.std.proofs.Common.{rules, subst}
use Rattle.std.specs.List.{flat_map}
use Rattle.x_streams.specs.Writing.{Adds}
use Rattle.x_pieces.specs.Texts.{prologue, forwards, part_text, epilogue}
use Rattle.x_text.proofs.Adding.{four}
use Rattle.x_pieces.proofs.text.add_text.Goals.{then-eq, else-eq}
use Rattle.x_pieces.proofs.text.add_text.Goals as goal

pub returns : goal.returns
returns g c =
    let parts = g.L.PieceList.parts c.args.list.now in
    let start = g.S.Sink.state c.args.sink.now in
    let front = g.S.Sink.state c.add_prologue.new.sink in
    let mid = g.S.Sink.state c.if-eq.sink in
    let next = g.S.Sink.state c.add_parts.new.sink in
    let end = g.S.Sink.state c.add.new.sink in
    let told : Adds c.add_prologue.new.pen front c.if-eq.pen mid (forwards c.args.which parts) =
    elim c.if-eq.branch [ then-eq w ↦ search rules | else-eq w ↦ search rules ] in
    four c.args.pen.now c.add_prologue.new.pen c.if-eq.pen c.add_parts.new.pen c.add.new.self start front
    mid next end
    (prologue c.args.which c.args.base.now) (forwards c.args.which parts)
    (flat_map (part_text c.args.which) parts) (epilogue c.args.which)
    c.add_prologue.ensures told c.add_parts.ensures
    (subst (λ t. Adds c.add_parts.new.pen next c.add.new.self end t) c.epilogue.ensures c.add.ensures)
