-- The lines of a text.
use Rattle.std.proofs.Common.{ℕ, zero, suc, ◌≤◌, arith, Bool, true, false, cond, List, [], ◌∷◌, length}
use Rattle.x_positions.specs.Positions.{ends_line, lines_before}

at_most_one : (b : Bool) → cond b 1 0 ≤ 1
at_most_one true = omega arith
at_most_one false = omega arith

-- a text has no more line ends than bytes
pub lines_few : (text : List ℕ) (at : ℕ) → lines_before text at ≤ length text
lines_few text zero = omega arith
lines_few [] (suc at) = omega arith
lines_few (b ∷ rest) (suc at) =
    let few = lines_few rest at in
    let one = at_most_one (ends_line b rest) in
    omega (arith, few, one)
