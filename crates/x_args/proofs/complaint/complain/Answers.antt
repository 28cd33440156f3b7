use Rattle.std.proofs.Common.{[], sym, subst}
use Rattle.x_streams.specs.Writing.{Inked, Writes, IsWritten}
use Rattle.x_streams.proofs.Pens.{writes_none}
use Rattle.x_args.proofs.Grown.{told}
use Rattle.x_args.proofs.complaint.complain.Goals as goal

pub returns : goal.returns
returns g c =
    let start = g.E.Sink.state c.args.err.now in
    let now = g.E.Sink.state c.finish.new.sink in
    let none : Writes start [] c.new-pen.result start =
    subst (λ (p : Inked). Writes start [] p start) (sym c.new-pen.ensures) (writes_none start) in
    let whole_told = c.finish.ensures.written start c.as_bytes.result.now
    (c.add.ensures.goes_on start [] none) in
    told c.finish.result start now c.args.text.now
    (subst (λ t. IsWritten c.finish.result start now t) c.as_bytes.ensures.value whole_told)
