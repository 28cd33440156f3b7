use Rattle.std.proofs.Common.{◌∙◌, ap, arith}
use Rattle.x_positions.specs.Positions.{first_line}
use Rattle.x_positions.proofs.SpotLemmas.{counted_on}
use Rattle.x_positions.proofs.WalkLemmas.{few_at}
use Rattle.x_positions.proofs.spots.position_in.Goals as goal

pub last_start-start-requires-clause-few : goal.last_start-start-requires-clause-few
last_start-start-requires-clause-few c =
    (few_at c.args.encoding c.args.text.now c.args.from.at c.args.from.position c.requires.from).0

pub overflow_add-result : goal.overflow_add-result
overflow_add-result c =
    let start = c.last_start-start.result in
    let few = few_at c.args.encoding c.args.text.now start.at start.position
    (c.last_start-start.ensures.spot c.args.encoding c.requires.from) in
    let small = few.1 in
    omega (arith, small)

pub returns : goal.returns
returns c =
    let e = c.args.encoding in
    let start = c.last_start-start.result in
    let text = c.args.text.now in
    counted_on e text c.first_line-line.result.now c.args.at start.at c.min-bytes.result c.units_behind.result
    start.position (c.last_start-start.ensures.spot e c.requires.from) c.last_start-start.ensures.before
    c.last_start-start.ensures.last (c.first_line-line.ensures.line ∙ ap first_line c.behind.ensures)
    c.min-bytes.ensures c.units_behind.ensures.units
