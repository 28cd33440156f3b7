use Rattle.std.proofs.Common.{arith}
use Rattle.x_positions.proofs.WalkLemmas.{few_at}
use Rattle.x_positions.proofs.marking.Marker.mark.Goals as goal

pub of-requires-clause-line : goal.of-requires-clause-line
of-requires-clause-line c =
    let s = c.args.self.now in
    let few = few_at s.encoding s.text.now c.args.spot.at c.args.spot.position c.requires in
    let lines = few.0 in
    let small = s.small in
    let within = c.requires.within in
    omega (arith, lines, small, within)

pub of-requires-clause-character : goal.of-requires-clause-character
of-requires-clause-character c =
    let s = c.args.self.now in
    let few = few_at s.encoding s.text.now c.args.spot.at c.args.spot.position c.requires in
    let units = few.1 in
    let small = s.small in
    let within = c.requires.within in
    omega (arith, units, small, within)
