use Rattle.std.proofs.Common.{[], map, sym, subst}
use Rattle.std.specs.List.{flat_map}
use Rattle.x_streams.specs.Writing.{Inked, Writes}
use Rattle.x_streams.proofs.Pens.{writes_none}
use Rattle.x_args.proofs.Grown.{told}
use Rattle.x_warnings.specs.WarningLines.{warning_line}
use Rattle.x_warnings.specs.Warnings.{view_warning}
use Rattle.x_generating.proofs.ClashLemmas.{mapped_none, not_empty, tells_some}
use Rattle.x_generating.proofs.rpcgen.warnings.say.Goals as goal

pub returns-clause-said : goal.returns-clause-said
returns-clause-said g c =
    let list = c.args.list.now in
    let ws = map view_warning list in
    let said = flat_map (warning_line c.args.file.now) ws in
    let start = g.E.Sink.state c.args.err.now in
    let now = g.E.Sink.state c.finish.new.sink in
    let none : Writes start [] c.new-pen.result start =
    subst (λ (p : Inked). Writes start [] p start) (sym c.new-pen.ensures) (writes_none start) in
    let some = not_empty list c.is_empty.result c.is_empty.ensures c.if-is_empty.false in
    tells_some c.args.file.now start now ws (λ e. some (mapped_none view_warning list e))
    (told c.finish.result start now said
    (c.finish.ensures.written start said (c.add_warnings.ensures.goes_on start [] none)))

pub returns-clause-quiet : goal.returns-clause-quiet
returns-clause-quiet g c none =
    absurd (not_empty c.args.list.now c.is_empty.result c.is_empty.ensures c.if-is_empty.false none)
