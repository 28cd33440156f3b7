use Rattle.std.proofs.Common.{codes}
use Rattle.x_text.proofs.Adding.{six}
use Rattle.x_explain.specs.Explained.{cyan, gutter, painted, place}
use Rattle.x_explain.proofs.lines.add_declared_line.Goals as goal

pub returns : goal.returns
returns g c =
    six c.args.pen.now c.add_gutter.new.pen c.add.new.self c.add_painted.new.pen c.add-2.new.self
    c.add_place.new.pen c.add-3.new.self
    (g.S.Sink.state c.args.sink.now) (g.S.Sink.state c.add_gutter.new.sink) (g.S.Sink.state c.add.new.sink)
    (g.S.Sink.state c.add_painted.new.sink)
    (g.S.Sink.state c.add-2.new.sink) (g.S.Sink.state c.add_place.new.sink) (g.S.Sink.state c.add-3.new.sink)
    (gutter c.args.line) (codes " | ") (painted c.args.coloured cyan (codes "note:")) (codes " declared at ")
    (place c.args.file.now c.args.first.now.spot.line c.args.first.now.spot.column) (codes "\n")
    c.add_gutter.ensures c.add.ensures c.add_painted.ensures c.add-2.ensures c.add_place.ensures
    c.add-3.ensures
