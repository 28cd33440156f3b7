use Rattle.std.proofs.Common.{◌≡◌, drop}
use Rattle.x_frames.specs.Framing.{is_named}
use Rattle.x_frames.proofs.head.is_named.Given as goal

abbrev pub invariant-loop-at : goal.invariant-loop-at
invariant-loop-at l = is_named (drop l.at l.name) (drop l.at l.wanted) ≡ is_named l.name l.wanted
