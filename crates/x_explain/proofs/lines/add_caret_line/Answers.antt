use Rattle.std.proofs.Common.{codes}
use Rattle.x_text.proofs.Adding.{five}
use Rattle.x_explain.specs.Excerpts.{view_excerpt}
use Rattle.x_explain.specs.Explained.{blank_front, green, gutter, mark, painted}
use Rattle.x_explain.proofs.lines.add_caret_line.Goals as goal

pub returns : goal.returns
returns g c =
    five c.args.pen.now c.add_gutter.new.pen c.add.new.self c.add_blank_front.new.pen
    c.add_painted_mark.new.pen c.add-2.new.self
    (g.S.Sink.state c.args.sink.now) (g.S.Sink.state c.add_gutter.new.sink) (g.S.Sink.state c.add.new.sink)
    (g.S.Sink.state c.add_blank_front.new.sink)
    (g.S.Sink.state c.add_painted_mark.new.sink) (g.S.Sink.state c.add-2.new.sink)
    (gutter c.args.line) (codes " | ") (blank_front (view_excerpt c.args.excerpt.now))
    (painted c.args.coloured green (mark (view_excerpt c.args.excerpt.now) c.args.width)) (codes "\n")
    c.add_gutter.ensures c.add.ensures c.add_blank_front.ensures c.add_painted_mark.ensures c.add-2.ensures
