use Rattle.std.proofs.Common.{take}
use Rattle.x_explain.specs.Found.{AreFound}
use Rattle.x_explain.proofs.found.found_at.Given as goal

-- the faults at the places so far
abbrev pub invariant-loop-place : goal.invariant-loop-place
invariant-loop-place l = AreFound l.text (take l.place-index l.places) l.found.items
