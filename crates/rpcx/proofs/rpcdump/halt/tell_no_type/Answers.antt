use Rattle.std.proofs.Common.{◌≡◌, ◌++◌, codes, [], sym, subst}
use Rattle.x_streams.specs.Writing.{Inked, Writes, IsWritten}
use Rattle.x_streams.proofs.Pens.{writes_none}
use Rattle.x_args.proofs.Grown.{told}
use Rattle.rpcx.proofs.rpcdump.halt.tell_no_type.Goals as goal

pub returns : goal.returns
returns g c =
    let start = g.E.Sink.state c.args.err.now in
    let now = g.E.Sink.state c.finish.new.sink in
    let front = codes "rpcdump: no type " in
    let none : Writes start [] c.new-pen.result start =
    subst (λ (p : Inked). Writes start [] p start) (sym c.new-pen.ensures) (writes_none start) in
    let why = c.add.ensures.goes_on start [] none in
    let name = c.add-2.ensures.goes_on start front why in
    let whole = c.add-3.ensures.goes_on start (front ++ c.as_bytes.result.now) name in
    let whole_told = c.finish.ensures.written start (front ++ c.as_bytes.result.now ++ codes "\n") whole in
    let text : front ++ c.as_bytes.result.now ++ codes "\n" ≡ front ++ c.args.name.now ++ codes "\n" =
    λ i. front ++ c.as_bytes.ensures.value i ++ codes "\n" in
    told c.finish.result start now (front ++ c.args.name.now ++ codes "\n")
    (subst (λ t. IsWritten c.finish.result start now t) text whole_told)
