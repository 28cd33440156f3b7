use Rattle.std.proofs.Common.{codes}
use Rattle.x_text.proofs.Adding.{five}
use Rattle.x_explain.specs.Excerpts.{view_excerpt}
use Rattle.x_explain.specs.Explained.{number_field, shown_front, shown_rear}
use Rattle.x_explain.proofs.lines.add_source_line.Goals as goal

pub returns : goal.returns
returns g c =
    five c.args.pen.now c.add_number_field.new.pen c.add.new.self c.add_front.new.pen c.add_rear.new.pen
    c.add-2.new.self
    (g.S.Sink.state c.args.sink.now) (g.S.Sink.state c.add_number_field.new.sink)
    (g.S.Sink.state c.add.new.sink) (g.S.Sink.state c.add_front.new.sink)
    (g.S.Sink.state c.add_rear.new.sink) (g.S.Sink.state c.add-2.new.sink)
    (number_field c.args.line) (codes " | ") (shown_front (view_excerpt c.args.excerpt.now))
    (shown_rear (view_excerpt c.args.excerpt.now)) (codes "\n")
    c.add_number_field.ensures c.add.ensures c.add_front.ensures c.add_rear.ensures c.add-2.ensures
