use Rattle.std.proofs.Common.{codes, ◌++◌, decimal, subst}
use Rattle.x_streams.specs.Writing.{Adds}
use Rattle.x_text.proofs.Adding.{six}
use Rattle.x_value.specs.Lines.{hex_text}
use Rattle.x_wire.proofs.telling.lines.add_auth.Goals as goal

pub returns : goal.returns
returns g c =
    let auth = c.args.auth.now in
    let start = g.S.Sink.state c.args.sink.now in
    let end = g.S.Sink.state c.add-4.new.sink in
    let added = six c.args.pen.now c.add.new.self c.add-2.new.self c.add_number.new.pen c.add-3.new.self
    c.add_hex.new.pen c.add-4.new.self
    start (g.S.Sink.state c.add.new.sink) (g.S.Sink.state c.add-2.new.sink)
    (g.S.Sink.state c.add_number.new.sink)
    (g.S.Sink.state c.add-3.new.sink) (g.S.Sink.state c.add_hex.new.sink) end
    c.as_bytes.result.now (codes " ") (decimal auth.flavor) (codes " ") (hex_text auth.body.now) (codes "\n")
    c.add.ensures c.add-2.ensures c.add_number.ensures c.add-3.ensures c.add_hex.ensures c.add-4.ensures in
    subst (λ w. Adds c.args.pen.now start c.add-4.new.self end
    (w ++ codes " " ++ decimal auth.flavor ++ codes " " ++ hex_text auth.body.now ++ codes "\n"))
    c.as_bytes.ensures.value added
