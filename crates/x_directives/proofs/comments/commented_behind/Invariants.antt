use Rattle.std.proofs.Common.{◌≡◌, length}
use Rattle.x_directives.specs.Comments.{commented_behind}
use Rattle.x_directives.proofs.comments.commented_behind.Given as goal

abbrev pub invariant-pairs : goal.invariant-pairs
invariant-pairs l = commented_behind l.now l.rest ≡ commented_behind l.fn.commented l.fn.bytes

abbrev pub decreases-pairs : goal.decreases-pairs
decreases-pairs l = length l.rest
