use Rattle.std.proofs.Common.{◌≡◌, ◌++◌, length}
use Rattle.std.specs.List.{flat_map}
use Rattle.x_directives.specs.Blanked.{blanked_line, blanked}
use Rattle.x_directives.proofs.blanking.add_lines.Given as goal

abbrev pub invariant-lines : goal.invariant-lines
invariant-lines l = l.bytes.items ++ flat_map blanked_line l.lines ≡ l.fn.bytes.items ++ blanked l.fn.text

abbrev pub decreases-lines : goal.decreases-lines
decreases-lines l = length l.lines
