use Rattle.std.proofs.Common.{ℕ, List}
use Rattle.x_frames.specs.Cancelling.{AreFramed}
use Rattle.x_frames.proofs.cancelling.is_cancelled.Given as goal

-- messages so far are passed over
abbrev pub invariant-loop : goal.invariant-loop
invariant-loop l = (before : List (List ℕ)) × AreFramed before l.bytes l.rest
