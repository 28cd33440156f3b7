use Rattle.std.proofs.Common.{codes}
use Rattle.x_text.proofs.Adding.{six}
use Rattle.x_explain.specs.Explained.{cyan, painted, place}
use Rattle.x_explain.proofs.foreign.add_foreign_line.Goals as goal

pub returns : goal.returns
returns g c =
    let state = g.S.Sink.state in
    let name = c.args.name.now in
    six c.args.pen.now c.add_place.new.pen c.add.new.self c.add_painted.new.pen c.add-2.new.self
    c.add-3.new.self
    c.add-4.new.self
    (state c.args.sink.now) (state c.add_place.new.sink) (state c.add.new.sink) (state c.add_painted.new.sink)
    (state c.add-2.new.sink) (state c.add-3.new.sink) (state c.add-4.new.sink)
    (place c.args.file.now name.spot.line name.spot.column) (codes ": ")
    (painted c.args.coloured cyan (codes "note:")) (codes " '") name.name.now (codes "' is taken from C\n")
    c.add_place.ensures c.add.ensures c.add_painted.ensures c.add-2.ensures c.add-3.ensures c.add-4.ensures
