use Rattle.std.proofs.Common.{[], refl}
use Rattle.x_streams.proofs.Pens.{adds_trans}
use Rattle.x_streams.proofs.pen.Pen.pass_on_and_add.Goals as goal

pub returns-else-not-holds : goal.returns-else-not-holds
returns-else-not-holds g c =
    let start = g.S.Sink.state c.args.sink.now in
    let now = g.S.Sink.state c.pass_on.new.sink in
    adds_trans c.args.self.now c.pass_on.new.self c.holds.new.self start now now [] c.args.bytes.now
    c.pass_on.ensures.adds (c.if-not-holds.ensures.holds refl now)
