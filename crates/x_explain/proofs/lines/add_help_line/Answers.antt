use Rattle.std.proofs.Common.{◌++◌, codes, sym, subst}
use Rattle.x_streams.specs.Writing.{Adds}
use Rattle.x_text.proofs.Adding.{six}
use Rattle.x_explain.specs.Explained.{cyan, gutter, help_line, painted}
use Rattle.std.specs.Prelude.{option_map}
use Rattle.x_explain.proofs.lines.add_help_line.Goals as goal

pub returns-in-Some : goal.returns-in-Some
returns-in-Some g c =
    let start = g.S.Sink.state c.args.sink.now in
    let end = g.S.Sink.state c.add-in-Some-3.new.sink in
    let line = c.args.line in
    let painted_help = painted c.args.coloured cyan (codes "help:") in
    let added = six c.args.pen.now c.add_gutter.new.pen c.add.new.self c.add_painted.new.pen
    c.add-in-Some.new.self c.add-in-Some-2.new.self c.add-in-Some-3.new.self
    start (g.S.Sink.state c.add_gutter.new.sink) (g.S.Sink.state c.add.new.sink)
    (g.S.Sink.state c.add_painted.new.sink)
    (g.S.Sink.state c.add-in-Some.new.sink) (g.S.Sink.state c.add-in-Some-2.new.sink) end
    (gutter line) (codes " | ") painted_help (codes " ") c.as_bytes.result.now (codes "\n")
    c.add_gutter.ensures c.add.ensures c.add_painted.ensures c.add-in-Some.ensures c.add-in-Some-2.ensures
    c.add-in-Some-3.ensures in
    let is_help = subst (λ t. Adds c.args.pen.now start c.add-in-Some-3.new.self end t)
    (λ i. gutter line ++ codes " | " ++ painted_help ++ codes " " ++ c.as_bytes.ensures.value i ++ codes "\n")
    added in
    subst (λ h. Adds c.args.pen.now start c.add-in-Some-3.new.self end
    (help_line c.args.coloured line (option_map (λ h. h.now) h))) (sym c.in-Some.is) is_help
