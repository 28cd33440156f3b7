use Rattle.std.proofs.Common.{◌++◌, codes, subst, ◌∙◌}
use Rattle.x_streams.specs.Writing.{Adds}
use Rattle.x_session.specs.FaultLines.{fault_place}
use Rattle.x_text.proofs.Adding.{four}
use Rattle.x_script.proofs.script.answer.add_fault.Goals as goal

pub returns : goal.returns
returns g c =
    let start = g.S.Sink.state c.args.sink.now in
    let end = g.S.Sink.state c.add-3.new.sink in
    let told = four c.args.pen.now c.add_place.new.pen c.add.new.self c.add-2.new.self c.add-3.new.self
    start (g.S.Sink.state c.add_place.new.sink) (g.S.Sink.state c.add.new.sink)
    (g.S.Sink.state c.add-2.new.sink) end
    (fault_place c.args.fault.now) (codes " ") c.as_bytes.result.now (codes "\n")
    c.add_place.ensures c.add.ensures c.add-2.ensures c.add-3.ensures in
    let code = c.as_bytes.ensures.value ∙ c.text.ensures in
    subst (λ k. Adds c.args.pen.now start c.add-3.new.self end
    (fault_place c.args.fault.now ++ codes " " ++ k ++ codes "\n")) code told
