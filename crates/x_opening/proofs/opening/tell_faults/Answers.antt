use Rattle.std.proofs.Common.{[], sym, subst}
use Rattle.x_streams.specs.Writing.{Inked, Writes}
use Rattle.x_streams.proofs.Pens.{writes_none}
use Rattle.x_opening.specs.Opened.{told_fault, told_faults}
use Rattle.x_args.specs.Telling.{IsTold}
use Rattle.x_compile.specs.declared.fault.Fault.{Fault}
use Rattle.x_args.proofs.Grown.{told}
use Rattle.x_text.proofs.Listing.{HasListed, lists_none, lists_more, lists_all}
use Rattle.x_opening.proofs.opening.tell_faults.Goals as goal

pub loop-fault-init : goal.loop-fault-init
loop-fault-init g c = lists_none (told_fault c.args.file.now) c.into_iter-fault-iterator.result
    c.new-pen.result (g.E.Sink.state c.args.err.now)

pub loop-fault-preserved : goal.loop-fault-preserved
loop-fault-preserved g c =
    let start = g.E.Sink.state c.args.err.now in
    let mid = g.E.Sink.state c.loop-fault.err in
    let all = c.into_iter-fault-iterator.result in
    let line = told_fault c.args.file.now in
    lists_more line all c.next.new.self c.in-Some.fault c.new-pen.result c.loop-fault.pen c.add_fault.new.pen
    start mid (g.E.Sink.state c.add_fault.new.err)
    (subst (λ fs. HasListed Fault line all fs c.new-pen.result start c.loop-fault.pen mid)
    c.in-Some.ensures.steps c.loop-fault.invariant)
    c.add_fault.ensures

pub returns : goal.returns
returns g c =
    let start = g.E.Sink.state c.args.err.now in
    let mid = g.E.Sink.state c.loop-fault.err in
    let now = g.E.Sink.state c.finish.new.sink in
    let all = c.into_iter-fault-iterator.result in
    let same = c.into_iter-fault-iterator.ensures.into_iter_gives in
    let text = told_faults c.args.file.now all in
    let listed = lists_all (told_fault c.args.file.now) all c.loop-fault.fault-iterator c.new-pen.result
    c.loop-fault.pen start mid
    c.in-None.ensures.steps.0 c.loop-fault.invariant in
    let none : Writes start [] c.new-pen.result start =
    subst (λ (p : Inked). Writes start [] p start) (sym c.new-pen.ensures) (writes_none start) in
    subst (λ fs. IsTold start now (told_faults c.args.file.now fs)) same
    (told c.finish.result start now text (c.finish.ensures.written start text (listed.goes_on start [] none)))
