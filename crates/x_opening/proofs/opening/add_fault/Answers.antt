use Rattle.std.proofs.Common.{◌++◌, codes, subst, ◌∙◌}
use Rattle.x_streams.specs.Writing.{Adds}
use Rattle.x_session.specs.FaultLines.{fault_place}
use Rattle.x_text.proofs.Adding.{six}
use Rattle.x_opening.proofs.opening.add_fault.Goals as goal

pub returns : goal.returns
returns g c =
    let start = g.E.Sink.state c.args.err.now in
    let end = g.E.Sink.state c.add-5.new.sink in
    let told = six c.args.pen.now c.add.new.self c.add-2.new.self c.add_place.new.pen c.add-3.new.self
    c.add-4.new.self c.add-5.new.self
    start (g.E.Sink.state c.add.new.sink) (g.E.Sink.state c.add-2.new.sink)
    (g.E.Sink.state c.add_place.new.sink) (g.E.Sink.state c.add-3.new.sink)
    (g.E.Sink.state c.add-4.new.sink) end
    c.as_bytes.result.now (codes ":") (fault_place c.args.fault.now) (codes ": ") c.as_bytes-2.result.now
    (codes "\n")
    c.add.ensures c.add-2.ensures c.add_place.ensures c.add-3.ensures c.add-4.ensures c.add-5.ensures in
    let file = c.as_bytes.ensures.value in
    let code = c.as_bytes-2.ensures.value ∙ c.text.ensures in
    subst (λ t. Adds c.args.pen.now start c.add-5.new.self end t)
    (λ i. file i ++ codes ":" ++ fault_place c.args.fault.now ++ codes ": " ++ code i ++ codes "\n") told
