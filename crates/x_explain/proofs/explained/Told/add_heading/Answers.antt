use Rattle.std.proofs.Common.{codes, ◌++◌, subst}
use Rattle.x_streams.specs.Writing.{Adds}
use Rattle.x_text.proofs.Adding.{two}
use Rattle.x_explain.specs.Explained.{place}
use Rattle.x_explain.proofs.explained.Told.add_heading.Goals as goal

pub returns : goal.returns
returns g c =
    let told = c.args.self.now in
    let start = g.S.Sink.state c.args.sink.now in
    let end = g.S.Sink.state c.add.new.sink in
    let added = two c.args.pen.now c.add_place.new.pen c.add.new.self start
    (g.S.Sink.state c.add_place.new.sink) end
    (place told.file.now told.line told.column) (codes ": ") c.add_place.ensures c.add.ensures in
    subst (λ t. Adds c.args.pen.now start c.add.new.self end t)
    (λ i. place told.file.now (told.line_is i) (told.column_is i) ++ codes ": ") added
