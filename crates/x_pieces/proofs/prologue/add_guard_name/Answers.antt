use Rattle.std.proofs.Common.{◌∷◌, [], subst}
use Rattle.x_streams.specs.Writing.{Adds}
use Rattle.x_pieces.specs.Texts.{guard_byte}
use Rattle.x_text.proofs.Listing.{maps_at, maps_past}
use Rattle.x_pieces.proofs.prologue.add_guard_name.Goals as goal

pub loop-byte-preserved : goal.loop-byte-preserved
loop-byte-preserved g c =
    let mid = g.S.Sink.state c.loop-byte.sink in
    let end = g.S.Sink.state c.add.new.sink in
    maps_at guard_byte c.args.base.now c.loop-byte.byte-index c.args.pen.now c.loop-byte.pen c.add.new.self
    (g.S.Sink.state c.args.sink.now) mid end
    c.loop-byte-test.true c.loop-byte.invariant
    (subst (λ b. Adds c.loop-byte.pen mid c.add.new.self end (b ∷ [])) c.guard_byte.ensures c.add.ensures)

pub returns : goal.returns
returns g c =
    maps_past guard_byte c.args.base.now c.loop-byte.byte-index c.args.pen.now c.loop-byte.pen
    (g.S.Sink.state c.args.sink.now) (g.S.Sink.state c.loop-byte.sink) c.loop-byte-test.false
    c.loop-byte.invariant
