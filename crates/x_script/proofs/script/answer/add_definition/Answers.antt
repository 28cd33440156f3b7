use Rattle.std.proofs.Common.{◌++◌, codes, subst, ◌∙◌}
use Rattle.std.specs.Fmt.{decimal}
use Rattle.x_streams.specs.Writing.{Adds}
use Rattle.x_text.proofs.Adding.{six}
use Rattle.x_script.proofs.script.answer.add_definition.Goals as goal

pub returns : goal.returns
returns g c =
    let start = g.S.Sink.state c.args.sink.now in
    let end = g.S.Sink.state c.add-5.new.sink in
    let told = six c.args.pen.now c.add_number.new.pen c.add.new.self c.add-2.new.self c.add-3.new.self
    c.add-4.new.self c.add-5.new.self
    start (g.S.Sink.state c.add_number.new.sink) (g.S.Sink.state c.add.new.sink)
    (g.S.Sink.state c.add-2.new.sink) (g.S.Sink.state c.add-3.new.sink) (g.S.Sink.state c.add-4.new.sink) end
    (decimal c.args.item) (codes " ") c.as_bytes.result.now (codes " ") c.shown_name.result.now (codes "\n")
    c.add_number.ensures c.add.ensures c.add-2.ensures c.add-3.ensures c.add-4.ensures c.add-5.ensures in
    let word = c.as_bytes.ensures.value ∙ c.keyword.ensures in
    let name = c.shown_name.ensures in
    subst (λ t. Adds c.args.pen.now start c.add-5.new.self end t)
    (λ i. decimal c.args.item ++ codes " " ++ word i ++ codes " " ++ name i ++ codes "\n") told
