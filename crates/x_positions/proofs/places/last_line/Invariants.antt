use Rattle.std.proofs.Common.{◌≤◌, ◌-◌, length}
use Rattle.x_positions.specs.PassedLines.{IsLine}
use Rattle.x_positions.proofs.places.last_line.Given as goal

abbrev pub invariant-lines : goal.invariant-lines
invariant-lines l = record {
  line : IsLine l.text l.found;
  before : l.found.start ≤ l.at;
}

abbrev pub decreases-lines : goal.decreases-lines
decreases-lines l = length l.text - l.found.start
