use Rattle.std.proofs.Common.{◌≡◌, ◌≤◌, length}
use Rattle.x_positions.specs.Positions.{behind_lines}
use Rattle.x_positions.proofs.positions.behind_lines.Given as goal

abbrev pub invariant-lines : goal.invariant-lines
invariant-lines l = record {
  rest : behind_lines l.left l.rest ≡ behind_lines l.fn.count l.fn.text;
  within : length l.rest ≤ length l.fn.text;
}

abbrev pub decreases-lines : goal.decreases-lines
decreases-lines l = l.left
