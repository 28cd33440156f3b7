use Rattle.std.proofs.Common.{◌≡◌, length}
use Rattle.x_directives.specs.Comments.{is_bare}
use Rattle.x_directives.proofs.comments.is_bare.Given as goal

abbrev pub invariant-pairs : goal.invariant-pairs
invariant-pairs l = is_bare l.now l.rest ≡ is_bare l.fn.commented l.fn.bytes

abbrev pub decreases-pairs : goal.decreases-pairs
decreases-pairs l = length l.rest
