use Rattle.std.proofs.Common.{◌≡◌, ◌++◌, length}
use Rattle.x_directives.specs.Conditionals.{conditionals_in, conditionals}
use Rattle.x_directives.proofs.conditions.conditionals.Given as goal

abbrev pub invariant-lines : goal.invariant-lines
invariant-lines l = l.all.items ++ conditionals_in l.lines ≡ conditionals l.fn.text

abbrev pub decreases-lines : goal.decreases-lines
decreases-lines l = length l.lines
