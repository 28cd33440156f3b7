use Rattle.std.proofs.Common.{◌++◌, codes, subst}
use Rattle.std.specs.Cow.{cow_slice_items}
use Rattle.x_streams.specs.Writing.{Adds}
use Rattle.x_text.proofs.Adding.{six}
use Rattle.x_warnings.specs.WarningLines.{other_text, place_text}
use Rattle.x_warnings.proofs.lines.add_warning.Goals as goal

pub returns : goal.returns
returns g c =
    let state = g.S.Sink.state in
    let file = c.args.file.now in
    let warning = c.args.warning.now in
    let start = state c.args.sink.now in
    let end = state c.add-4.new.sink in
    let place = place_text file warning.spot in
    let other = other_text file warning.other in
    subst (λ name. Adds c.args.pen.now start c.add-4.new.self end
    (place ++ codes ": warning: '" ++ name ++ codes "' " ++ other ++ codes "\n")) c.deref.ensures.value
    (six c.args.pen.now c.add_place.new.pen c.add.new.self c.add-2.new.self c.add-3.new.self
    c.add_other.new.pen c.add-4.new.self start (state c.add_place.new.sink) (state c.add.new.sink)
    (state c.add-2.new.sink) (state c.add-3.new.sink) (state c.add_other.new.sink) end
    place (codes ": warning: '") c.deref.result.now (codes "' ") other (codes "\n")
    c.add_place.ensures c.add.ensures c.add-2.ensures c.add-3.ensures c.add_other.ensures c.add-4.ensures)
