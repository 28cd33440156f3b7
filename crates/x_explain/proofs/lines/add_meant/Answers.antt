use Rattle.std.proofs.Common.{codes}
use Rattle.x_text.proofs.Adding.{three}
use Rattle.x_explain.proofs.lines.add_meant.Goals as goal

pub returns : goal.returns
returns g c =
    three c.args.pen.now c.add.new.self c.add-2.new.self c.add-3.new.self
    (g.S.Sink.state c.args.sink.now) (g.S.Sink.state c.add.new.sink) (g.S.Sink.state c.add-2.new.sink)
    (g.S.Sink.state c.add-3.new.sink)
    (codes "did you mean '") c.args.name.now (codes "'?") c.add.ensures c.add-2.ensures c.add-3.ensures
