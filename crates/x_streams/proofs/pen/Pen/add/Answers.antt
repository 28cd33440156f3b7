use Rattle.std.proofs.Common.{refl}
use Rattle.x_streams.proofs.pen.Pen.add.Goals as goal

pub returns-else-not-holds : goal.returns-else-not-holds
returns-else-not-holds g c = c.if-not-holds.ensures.holds refl (g.S.Sink.state c.args.sink.now)
