use Rattle.std.proofs.Common.{◌∙◌, ◌-◌, ◌+◌, ap, length}
use Rattle.x_positions.specs.Positions.{behind_lines, first_line, place_within}
use Rattle.x_positions.proofs.SpotLemmas.{in_its_line, in_later_line}
use Rattle.x_positions.proofs.spots.offset_from.Goals as goal

pub returns-then-position-from-clause-place : goal.returns-then-position-from-clause-place
returns-then-position-from-clause-place c =
    let p = c.args.from.position in
    let q = c.args.position in
    ap (λ n. c.args.from.at + n) (c.place_within.ensures.place
    ∙ ap (λ l. place_within c.args.encoding (first_line l) (q.character - p.character)) c.behind-rest.ensures)
    ∙ in_its_line c.args.encoding c.args.text.now c.args.from.at p q c.requires.from c.requires.outside
    c.requires.before c.if-position-from.true

pub returns-clause-place : goal.returns-clause-place
returns-clause-place c =
    let p = c.args.from.position in
    let q = c.args.position in
    let text = c.args.text.now in
    let rest = c.behind_lines-rest.result.now in
    ap (λ n. (length text - length rest) + n) c.place_within-2.ensures.place
    ∙ in_later_line c.args.encoding text rest c.args.from.at p q c.requires.from c.requires.before
    c.if-position-from.false
    (c.behind_lines-rest.ensures.rest ∙ ap (behind_lines (q.line - p.line)) c.behind-rest.ensures)
