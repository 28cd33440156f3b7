use Rattle.std.proofs.Common.{subst}
use Rattle.x_session.specs.Session.{Compiles}
use Rattle.x_prelude.specs.Leading.{IsForeignUse}
use Rattle.x_script.specs.Commands.{bytes_of}
use Rattle.x_script.specs.Situations.{situation}
use Rattle.x_script.proofs.ShowingLemmas.{shown_faulty, shown_known, shown_unknown}
use Rattle.x_script.proofs.script.showing.answer_over.Goals as goal

pub returns-then-fault_count-gt0-clause-told : goal.returns-then-fault_count-gt0-clause-told
returns-then-fault_count-gt0-clause-told g c file =
    let text = c.args.text.now in
    shown_faulty c.args.pen.now c.add_line.new.pen (g.S.Sink.state c.args.sink.now)
    (g.S.Sink.state c.add_line.new.sink) (situation file text).how text.session.text c.args.name.now
    (bytes_of c.args.hex.now) c.fault_count.result c.if-fault_count-gt0.true c.fault_count.ensures
    c.add_line.ensures

pub returns-in-Some-clause-told : goal.returns-in-Some-clause-told
returns-in-Some-clause-told g c file =
    let text = c.args.text.now in
    let leads = subst (λ o. Compiles text.session.known text.session.text (λ items.
    IsForeignUse text.files.items text.from_c text.session.text items c.args.name.now o)) c.in-Some.is
    (c.in_ok-spot.ensures c.requires.over) in
    shown_unknown c.args.pen.now c.add_unknown.new.pen (g.S.Sink.state c.args.sink.now)
    (g.S.Sink.state c.add_unknown.new.sink) (situation file text).how text.session.text c.args.name.now
    (bytes_of c.args.hex.now) c.fault_count.result c.in-Some.spot c.if-fault_count-gt0.false
    c.fault_count.ensures leads c.add_unknown.ensures

pub returns-in-None-clause-told : goal.returns-in-None-clause-told
returns-in-None-clause-told g c file =
    let text = c.args.text.now in
    let leads = subst (λ o. Compiles text.session.known text.session.text (λ items.
    IsForeignUse text.files.items text.from_c text.session.text items c.args.name.now o)) c.in-None.is
    (c.in_ok-spot.ensures c.requires.over) in
    shown_known c.args.pen.now c.answer_by.new.pen (g.S.Sink.state c.args.sink.now)
    (g.S.Sink.state c.answer_by.new.sink) (situation file text).how text.session.text c.args.name.now
    (bytes_of c.args.hex.now) c.fault_count.result c.answer_by.result c.if-fault_count-gt0.false
    c.fault_count.ensures leads c.answer_by.ensures.told
