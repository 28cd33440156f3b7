use Rattle.std.proofs.Common.{[], sym, subst}
use Rattle.x_streams.specs.Writing.{Inked, Writes}
use Rattle.x_streams.proofs.Pens.{writes_none}
use Rattle.x_explain.specs.Facts.{before_in, foreign_in}
use Rattle.x_session.proofs.DeclaredLemmas.{of_each}
use Rattle.x_prelude.specs.Foreign.{AreForeign}
use Rattle.x_session.specs.Session.{Compiles}
use Rattle.x_explain.specs.KnownFiles.{no_places}
use Rattle.x_args.proofs.Grown.{told}
use Rattle.x_opening.specs.Opening.{HavePlaces}
use Rattle.x_opening.proofs.opening.explain_over.Goals as goal

pub returns-clause-told : goal.returns-clause-told
returns-clause-told g c =
    let start = g.E.Sink.state c.args.err.now in
    let now = g.E.Sink.state c.finish.new.sink in
    let all = c.add_explained_faults.ensures in
    let text = all.3.0 in
    let none : Writes start [] c.new-pen.result start =
    subst (λ (p : Inked). Writes start [] p start) (sym c.new-pen.ensures) (writes_none start) in
    let places = before_in c.in_ok-facts.facts in
    let have = subst (HavePlaces no_places c.args.how.now.known.now.files.items)
    (sym c.in_ok-facts.ensures.files) c.requires in
    let foreign = foreign_in c.in_ok-facts.facts in
    let are = subst (λ f. Compiles c.args.session.now.known c.args.session.now.text
    (λ items. AreForeign f c.args.how.now.from_c c.args.session.now.text items foreign)) c.text.ensures
    (subst (λ ns. Compiles c.args.session.now.known c.args.session.now.text
    (λ items. AreForeign c.text.result.now c.args.how.now.from_c c.args.session.now.text items ns))
    (sym c.in_ok-facts.ensures.foreign) c.in_ok-foreign.ensures) in
    let told_is = told c.finish.result start now text
    (c.finish.ensures.written start text (all.3.2.goes_on start [] none)) in
    let named = of_each c.args.session.now.text are all.0 all.1 all.2 in
    (all.0, all.1, all.2, (places, have, foreign, named, text, all.3.1, told_is))
