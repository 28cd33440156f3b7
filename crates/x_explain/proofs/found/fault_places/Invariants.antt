use Rattle.std.proofs.Common.{◌≡◌, ◌++◌}
use Rattle.x_explain.proofs.found.fault_places.Given as goal

-- the places so far, and those that are left
abbrev pub invariant-loop-place : goal.invariant-loop-place
invariant-loop-place l = l.places.items ++ l.place-iterator ≡ l.initial.place-iterator
