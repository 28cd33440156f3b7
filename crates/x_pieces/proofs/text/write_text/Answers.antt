use Rattle.std.proofs.Common.{[], sym, subst}
use Rattle.x_streams.specs.Writing.{Inked, Writes}
use Rattle.x_streams.proofs.Pens.{writes_none}
use Rattle.x_pieces.specs.Texts.{text}
use Rattle.x_pieces.proofs.text.write_text.Goals as goal

pub returns-clause-written : goal.returns-clause-written
returns-clause-written g c =
    let start = g.S.Sink.state c.args.sink.now in
    let none : Writes start [] c.new-pen.result start =
    subst (λ (p : Inked). Writes start [] p start) (sym c.new-pen.ensures) (writes_none start) in
    c.finish.ensures.written start (text c.args.which c.args.base.now (g.L.PieceList.parts c.args.list.now))
    (c.add_text.ensures.goes_on start [] none)
