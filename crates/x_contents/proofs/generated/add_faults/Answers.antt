use Rattle.std.proofs.Common.{◌≡◌, subst, ◌∙◌}
use Rattle.std.specs.List.{flat_map}
use Rattle.x_streams.specs.Writing.{Adds}
use Rattle.x_text.proofs.Listing.{HasListed, lists_more, lists_all}
use Rattle.x_compile.specs.Compile.{faults_of}
use Rattle.x_compile.specs.declared.fault.Fault.{Fault}
use Rattle.x_session.specs.FaultLines.{fault_line}
use Rattle.x_contents.proofs.generated.add_faults.Goals as goal

pub loop-fault-preserved : goal.loop-fault-preserved
loop-fault-preserved g c =
    let start = g.S.Sink.state c.args.sink.now in
    let mid = g.S.Sink.state c.loop-fault.sink in
    let all = c.into_iter-fault-iterator.result in
    lists_more fault_line all c.next.new.self c.in-Some.fault c.args.pen.now c.loop-fault.pen
    c.add_fault.new.pen start mid (g.S.Sink.state c.add_fault.new.sink)
    (subst (λ ls. HasListed Fault fault_line all ls c.args.pen.now start c.loop-fault.pen mid)
    c.in-Some.ensures.steps c.loop-fault.invariant)
    c.add_fault.ensures

pub returns : goal.returns
returns g c =
    let told = c.faults-fault-items.ensures in
    let items = told.1 in
    let text = c.args.session.now.text in
    let all = c.into_iter-fault-iterator.result in
    let start = g.S.Sink.state c.args.sink.now in
    let end = g.S.Sink.state c.loop-fault.sink in
    let listed = lists_all fault_line all c.loop-fault.fault-iterator c.args.pen.now c.loop-fault.pen start
    end c.in-None.ensures.steps.0 c.loop-fault.invariant in
    let faults : all ≡ faults_of text items = c.into_iter-fault-iterator.ensures.into_iter_gives ∙ told.3 in (
      told.0,
      items,
      told.2,
      subst (λ fs. Adds c.args.pen.now start c.loop-fault.pen end
          (flat_map fault_line fs)) faults listed,
    )
