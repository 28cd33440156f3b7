use Rattle.std.proofs.Common.{◌≡◌, ◌++◌, length, codes, ap, subst, ◌∙◌}
use Rattle.std.specs.List.{flat_map}
use Rattle.x_streams.specs.Writing.{Adds}
use Rattle.x_streams.proofs.Pens.{adds_trans}
use Rattle.x_compile.specs.Compile.{faults_of}
use Rattle.x_compile.specs.declared.fault.Fault.{Fault}
use Rattle.x_script.specs.Answers.{counted_line, faults_answer}
use Rattle.x_session.specs.FaultLines.{fault_line}
use Rattle.x_compile.proofs.Compiled.{one_compilation}
use Rattle.x_text.proofs.Listing.{HasListed, lists_more, lists_all}
use Rattle.x_script.proofs.script.answer.add_faults.Goals as goal

pub loop-fault-preserved : goal.loop-fault-preserved
loop-fault-preserved g c =
    let start = g.S.Sink.state c.add_counted.new.sink in
    let mid = g.S.Sink.state c.loop-fault.sink in
    let all = c.into_iter-fault-iterator.result in
    lists_more fault_line all c.next.new.self c.in-Some.fault c.add_counted.new.pen c.loop-fault.pen
    c.add_fault.new.pen start mid (g.S.Sink.state c.add_fault.new.sink)
    (subst (λ ls. HasListed Fault fault_line all ls c.add_counted.new.pen start c.loop-fault.pen mid)
    c.in-Some.ensures.steps c.loop-fault.invariant)
    c.add_fault.ensures

pub returns : goal.returns
returns g c =
    let one = c.fault_count.ensures in
    let two = c.faults-fault-items.ensures in
    let same : one.1 ≡ two.1 =
    (one_compilation c.args.session.now.known c.args.session.now.text one.0 two.0 one.1 two.1
    one.2 two.2).1 in
    let items = two.1 in
    let text = c.args.session.now.text in
    let all = c.into_iter-fault-iterator.result in
    let start = g.S.Sink.state c.args.sink.now in
    let mid = g.S.Sink.state c.add_counted.new.sink in
    let end = g.S.Sink.state c.loop-fault.sink in
    let listed = lists_all fault_line all c.loop-fault.fault-iterator c.add_counted.new.pen c.loop-fault.pen
    mid end c.in-None.ensures.steps.0 c.loop-fault.invariant in
    let told = adds_trans c.args.pen.now c.add_counted.new.pen c.loop-fault.pen start mid end
    (counted_line (codes "faults") c.fault_count.result) (flat_map fault_line all)
    c.add_counted.ensures listed in
    let count : c.fault_count.result ≡ length (faults_of text items) = one.3
    ∙ ap (λ is. length (faults_of text is)) same in
    let faults : all ≡ faults_of text items = c.into_iter-fault-iterator.ensures.into_iter_gives ∙ two.3 in
    let whole : counted_line (codes "faults") c.fault_count.result ++ flat_map fault_line all
    ≡ faults_answer (faults_of text items) =
    λ i. counted_line (codes "faults") (count i) ++ flat_map fault_line (faults i) in
    (two.0, items, two.2, subst (λ t. Adds c.args.pen.now start c.loop-fault.pen end t) whole told)
