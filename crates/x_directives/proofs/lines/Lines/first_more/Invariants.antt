use Rattle.std.proofs.Common.{◌≡◌, length}
use Rattle.std.specs.List.{find}
use Rattle.x_directives.specs.Conditionals.{says_more}
use Rattle.x_directives.proofs.lines.Lines.first_more.Given as goal

abbrev pub invariant-lines : goal.invariant-lines
invariant-lines l = find says_more l.lines ≡ find says_more l.fn.self

abbrev pub decreases-lines : goal.decreases-lines
decreases-lines l = length l.lines
