use Rattle.std.proofs.Common.{[], sym, subst}
use Rattle.x_streams.specs.Writing.{Inked, Writes}
use Rattle.x_streams.proofs.Pens.{writes_none}
use Rattle.x_value.proofs.values.dump_value.Goals as goal

pub returns-in-Ok-finish-clause-written : goal.returns-in-Ok-finish-clause-written
returns-in-Ok-finish-clause-written g c =
    let start = g.S.Sink.state c.args.sink.now in
    let none : Writes start [] c.new-pen.result start =
    subst (λ (p : Inked). Writes start [] p start) (sym c.new-pen.ensures) (writes_none start) in
    let told = c.in-Ok.ensures.added in
    (told.0, told.1, c.in-Ok-finish.ensures.written start told.0 (told.2.goes_on start [] none))

pub returns-in-Err-finish-clause-written : goal.returns-in-Err-finish-clause-written
returns-in-Err-finish-clause-written g c =
    let start = g.S.Sink.state c.args.sink.now in
    let none : Writes start [] c.new-pen.result start =
    subst (λ (p : Inked). Writes start [] p start) (sym c.new-pen.ensures) (writes_none start) in
    let told = c.in-Ok.ensures.added in (
      told.0,
      c.in-Ok.outcome,
      told.1,
      c.in-Err-finish.ensures.written start told.0 (told.2.goes_on start [] none),
    )
