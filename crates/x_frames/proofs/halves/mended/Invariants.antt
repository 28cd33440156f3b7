use Rattle.std.proofs.Common.{◌≡◌, ◌++◌, drop}
use Rattle.x_frames.specs.Halves.{mended, mended_from}
use Rattle.x_frames.proofs.halves.mended.Given as goal

-- with what the bytes that are left become, this is the whole text
abbrev pub invariant-loop-at : goal.invariant-loop-at
invariant-loop-at l = l.bytes.items ++ mended_from l.escape (drop l.at l.text) ≡ mended l.text
