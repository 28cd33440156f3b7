use Rattle.std.proofs.Common.{◌≡◌, ◌++◌, codes, [], sym, subst}
use Rattle.x_streams.specs.Writing.{Inked, Writes, IsWritten}
use Rattle.x_streams.proofs.Pens.{writes_none}
use Rattle.x_args.specs.Answering.{refused_told}
use Rattle.x_args.proofs.Grown.{told}
use Rattle.x_args.proofs.answering.tell_usage.Goals as goal

pub returns : goal.returns
returns g c =
    let start = g.E.Sink.state c.args.err.now in
    let none : Writes start [] c.new-pen.result start =
    subst (λ (p : Inked). Writes start [] p start) (sym c.new-pen.ensures) (writes_none start) in
    let one = c.add.ensures.goes_on start [] none in
    let two = c.add-2.ensures.goes_on start c.as_bytes.result.now one in
    let three = c.add-3.ensures.goes_on start (c.as_bytes.result.now ++ codes ": ") two in
    let four = c.add-4.ensures.goes_on start (c.as_bytes.result.now ++ codes ": " ++ c.args.why.now) three in
    let five = c.add-5.ensures.goes_on start
    (c.as_bytes.result.now ++ codes ": " ++ c.args.why.now ++ codes "\nusage: ") four in
    let six = c.add-6.ensures.goes_on start (c.as_bytes.result.now ++ codes ": " ++ c.args.why.now
    ++ codes "\nusage: " ++ c.as_bytes-2.result.now) five in
    let seven = c.add-7.ensures.goes_on start (c.as_bytes.result.now ++ codes ": " ++ c.args.why.now
    ++ codes "\nusage: " ++ c.as_bytes-2.result.now ++ codes "\ntry '") six in
    let eight = c.add-8.ensures.goes_on start
    (c.as_bytes.result.now ++ codes ": " ++ c.args.why.now ++ codes "\nusage: " ++ c.as_bytes-2.result.now
    ++ codes "\ntry '" ++ c.as_bytes-3.result.now) seven in
    let whole = c.as_bytes.result.now ++ codes ": " ++ c.args.why.now ++ codes "\nusage: "
    ++ c.as_bytes-2.result.now ++ codes "\ntry '" ++ c.as_bytes-3.result.now ++ codes " --help'\n" in
    let is : whole ≡ refused_told c.args.manual.now c.args.why.now =
    λ i. c.as_bytes.ensures.value i ++ codes ": " ++ c.args.why.now ++ codes "\nusage: "
    ++ c.as_bytes-2.ensures.value i ++ codes "\ntry '" ++ c.as_bytes-3.ensures.value i
    ++ codes " --help'\n" in
    let now = g.E.Sink.state c.finish.new.sink in
    told c.finish.result start now (refused_told c.args.manual.now c.args.why.now)
    (subst (λ t. IsWritten c.finish.result start now t) is (c.finish.ensures.written start whole eight))
