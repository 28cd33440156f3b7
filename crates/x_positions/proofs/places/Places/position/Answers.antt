use Rattle.std.proofs.Common.{◌≡◌, ◌∙◌, ◌-◌, sym, ap, drop, min}
use Rattle.x_positions.specs.Positions.{first_line, position_of, units_before}
use Rattle.x_positions.proofs.LineLemmas.{position, position_found}
use Rattle.x_positions.proofs.PassedLineLemmas.{units_within}
use Rattle.x_positions.proofs.places.Places.position.Goals as goal

pub returns-clause-position : goal.returns-clause-position
returns-clause-position c =
    let e = c.self.inside.encoding in
    let text = c.self.inside.text.now in
    let line = c.last_line-line.result in
    let is = c.last_line-line.ensures.line in
    let content = first_line (drop line.start text) in
    let units : c.units_in-units.result ≡ units_before e content (c.args.at - line.start) =
    c.units_in-units.ensures.units
    ∙ ap (λ v. units_before v.encoding (first_line (drop line.start v.text)) c.min-bytes.result)
    (sym c.self.view_is)
    ∙ ap (units_before e content) (c.min-bytes.ensures ∙ ap (min (c.args.at - line.start)) is.length_is)
    ∙ units_within e content (c.args.at - line.start) in
    ap (position line.number) units
    ∙ position_found e text c.args.at line.number line.start is.starts c.last_line-line.ensures.before
    c.last_line-line.ensures.last
    ∙ ap (λ v. position_of v.encoding v.text c.args.at) c.self.view_is
