use Rattle.std.proofs.Common.{◌++◌, codes, subst, ◌∙◌}
use Rattle.std.specs.Fmt.{decimal}
use Rattle.x_streams.specs.Writing.{Adds}
use Rattle.x_text.proofs.Adding.{five}
use Rattle.x_value.proofs.fault.ReadFault.add_line.Goals as goal

pub returns : goal.returns
returns g c =
    let start = g.S.Sink.state c.args.sink.now in
    let end = g.S.Sink.state c.add-4.new.sink in
    let told = five c.args.pen.now c.add.new.self c.add-2.new.self c.add-3.new.self c.add_number.new.pen
    c.add-4.new.self
    start (g.S.Sink.state c.add.new.sink) (g.S.Sink.state c.add-2.new.sink) (g.S.Sink.state c.add-3.new.sink)
    (g.S.Sink.state c.add_number.new.sink) end
    (codes "fault ") c.as_bytes.result.now (codes " at ") (decimal c.args.self.now.at) (codes "\n")
    c.add.ensures c.add-2.ensures c.add-3.ensures c.add_number.ensures c.add-4.ensures in
    subst (λ t. Adds c.args.pen.now start c.add-4.new.self end
    (codes "fault " ++ t ++ codes " at " ++ decimal c.args.self.now.at ++ codes "\n"))
    (c.as_bytes.ensures.value ∙ c.text.ensures) told
