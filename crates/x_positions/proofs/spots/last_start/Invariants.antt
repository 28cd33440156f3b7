use Rattle.std.proofs.Common.{◌≤◌, ◌-◌}
use Rattle.x_positions.specs.declared.encoding.Encoding.{Encoding}
use Rattle.x_positions.specs.Waymarks.{IsAt}
use Rattle.x_positions.proofs.spots.last_start.Given as goal

abbrev pub invariant-lines : goal.invariant-lines
invariant-lines l = record {
  spot : (e : Encoding) → IsAt e l.text l.fn.from.at l.fn.from.position
      → IsAt e l.text l.found.at l.found.position;
  few : l.found.position.line ≤ l.found.at;
  before : l.found.at ≤ l.at;
}

abbrev pub decreases-lines : goal.decreases-lines
decreases-lines l = l.at - l.found.at
