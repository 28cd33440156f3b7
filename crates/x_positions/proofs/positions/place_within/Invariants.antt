use Rattle.std.proofs.Common.{◌≡◌, ◌+◌, drop}
use Rattle.x_positions.specs.Positions.{first_line, place_within}
use Rattle.x_positions.proofs.positions.place_within.Given as goal

abbrev pub invariant-loop-at : goal.invariant-loop-at
invariant-loop-at l = place_within l.encoding (first_line l.rest) l.units
    ≡ l.at + place_within l.encoding (first_line (drop l.at l.rest)) l.left
