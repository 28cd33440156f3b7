use Rattle.std.proofs.Common.{◌≡◌, ◌++◌, length, map}
use Rattle.std.specs.List.{filter_map}
use Rattle.x_directives.specs.Constants.{defined_in, defined}
use Rattle.x_directives.specs.Spelling.{spelled}
use Rattle.x_directives.proofs.constants.defined.Given as goal

abbrev pub invariant-lines : goal.invariant-lines
invariant-lines l = map spelled l.all.items ++ filter_map defined_in l.lines ≡ defined l.fn.text

abbrev pub decreases-lines : goal.decreases-lines
decreases-lines l = length l.lines
