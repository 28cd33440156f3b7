use Rattle.std.proofs.Common.{◌++◌, codes, subst, ◌∙◌}
use Rattle.std.specs.Fmt.{decimal}
use Rattle.x_streams.specs.Writing.{Adds}
use Rattle.x_text.proofs.Adding.{six}
use Rattle.x_script.proofs.script.answer.add_token.Goals as goal

pub returns : goal.returns
returns g c =
    let start = g.S.Sink.state c.args.sink.now in
    let end = g.S.Sink.state c.add-4.new.sink in
    let told = six c.args.pen.now c.add_number.new.pen c.add.new.self c.add_number-2.new.pen c.add-2.new.self
    c.add-3.new.self c.add-4.new.self
    start (g.S.Sink.state c.add_number.new.sink) (g.S.Sink.state c.add.new.sink)
    (g.S.Sink.state c.add_number-2.new.sink) (g.S.Sink.state c.add-2.new.sink)
    (g.S.Sink.state c.add-3.new.sink) end
    (decimal c.args.token.now.start) (codes " ") (decimal c.args.token.now.end)
    (codes " ") c.as_bytes.result.now (codes "\n")
    c.add_number.ensures c.add.ensures c.add_number-2.ensures c.add-2.ensures c.add-3.ensures
    c.add-4.ensures in
    let kind = c.as_bytes.ensures.value ∙ c.name.ensures in
    subst (λ k. Adds c.args.pen.now start c.add-4.new.self end (decimal c.args.token.now.start ++ codes " "
    ++ decimal c.args.token.now.end ++ codes " " ++ k ++ codes "\n")) kind told
