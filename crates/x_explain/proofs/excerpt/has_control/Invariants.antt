use Rattle.std.proofs.Common.{◌≡◌, length}
use Rattle.x_explain.specs.Excerpts.{has_control}
use Rattle.x_explain.proofs.excerpt.has_control.Given as goal

-- the bytes that are left have such a character where all have
abbrev pub invariant-loop-rest : goal.invariant-loop-rest
invariant-loop-rest l = has_control l.rest ≡ has_control l.bytes

abbrev pub decreases-loop-rest : goal.decreases-loop-rest
decreases-loop-rest l = length l.rest
