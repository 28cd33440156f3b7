use Rattle.std.proofs.Common.{◌≡◌, ◌++◌, codes, [], sym, subst}
use Rattle.x_streams.specs.Writing.{Inked, Writes, IsWritten}
use Rattle.x_streams.proofs.Pens.{writes_none}
use Rattle.x_args.proofs.Grown.{told}
use Rattle.x_args.proofs.complaint.tell_of_file.Goals as goal

pub returns : goal.returns
returns g c =
    let start = g.E.Sink.state c.args.err.now in
    let now = g.E.Sink.state c.finish.new.sink in
    let none : Writes start [] c.new-pen.result start =
    subst (λ (p : Inked). Writes start [] p start) (sym c.new-pen.ensures) (writes_none start) in
    let name = c.add.ensures.goes_on start [] none in
    let front = c.add-2.ensures.goes_on start c.as_bytes.result.now name in
    let file = c.add-3.ensures.goes_on start (c.as_bytes.result.now ++ codes ": ") front in
    let whole = c.add-4.ensures.goes_on start
    (c.as_bytes.result.now ++ codes ": " ++ c.as_bytes-2.result.now) file in
    let whole_told = c.finish.ensures.written start
    (c.as_bytes.result.now ++ codes ": " ++ c.as_bytes-2.result.now ++ c.as_bytes-3.result.now) whole in
    let text : c.as_bytes.result.now ++ codes ": " ++ c.as_bytes-2.result.now ++ c.as_bytes-3.result.now
    ≡ c.args.program.now ++ codes ": " ++ c.args.file.now ++ c.args.wrong.now =
    λ i. c.as_bytes.ensures.value i ++ codes ": " ++ c.as_bytes-2.ensures.value i
    ++ c.as_bytes-3.ensures.value i in
    told c.finish.result start now (c.args.program.now ++ codes ": " ++ c.args.file.now ++ c.args.wrong.now)
    (subst (λ t. IsWritten c.finish.result start now t) text whole_told)
