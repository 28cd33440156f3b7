use Rattle.std.proofs.Common.{◌≡◌, ◌++◌, codes, [], sym, subst}
use Rattle.x_streams.specs.Writing.{Inked, Writes}
use Rattle.x_streams.proofs.Pens.{writes_none}
use Rattle.x_args.specs.Answering.{version_text, IsShown}
use Rattle.x_args.proofs.answering.show_version.Goals as goal

pub returns-clause-shown : goal.returns-clause-shown
returns-clause-shown g c =
    let start = g.O.Sink.state c.args.out.now in
    let none : Writes start [] c.new-pen.result start =
    subst (λ (p : Inked). Writes start [] p start) (sym c.new-pen.ensures) (writes_none start) in
    let one = c.add.ensures.goes_on start [] none in
    let two = c.add-2.ensures.goes_on start c.as_bytes.result.now one in
    let three = c.add-3.ensures.goes_on start (c.as_bytes.result.now ++ codes " ") two in
    let four = c.add-4.ensures.goes_on start
    (c.as_bytes.result.now ++ codes " " ++ c.as_bytes-2.result.now) three in
    let whole = c.as_bytes.result.now ++ codes " " ++ c.as_bytes-2.result.now ++ codes "\n" in
    let is : whole ≡ version_text c.args.manual.now =
    λ i. c.as_bytes.ensures.value i ++ codes " " ++ c.as_bytes-2.ensures.value i ++ codes "\n" in
    subst (λ t. IsShown c.args.manual.now.name.now t (g.O.Outlet.is_closed c.end_showing.new.out) start
    (g.O.Sink.state c.end_showing.new.out) (g.E.Sink.state c.args.err.now)
    (g.E.Sink.state c.end_showing.new.err) c.end_showing.result) is
    (c.end_showing.ensures.shown start whole four)
