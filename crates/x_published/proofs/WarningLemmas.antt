-- What is published of names that clash in C.
use Rattle.std.proofs.Common.{◌≡◌, ◌∙◌, ℕ, zero, suc, ◌≤◌, arith, Bool, true, false, cond}
use Rattle.std.proofs.Common.{List, [], ◌∷◌, ◌++◌, ap, append_assoc, length}
use Rattle.std.specs.Prelude.{Result, Ok, Err, OnOk}
use Rattle.x_positions.specs.Positions.{ends_line, lines_before}

at_most_one : (b : Bool) → cond b 1 0 ≤ 1
at_most_one true = omega arith
at_most_one false = omega arith

-- a text has no more line ends than bytes
pub lines_few : (text : List ℕ) (at : ℕ) → lines_before text at ≤ length text
lines_few text zero = omega arith
lines_few [] (suc at) = omega arith
lines_few (b ∷ rest) (suc at) =
    let few = lines_few rest at in
    let one = at_most_one (ends_line b rest) in
    omega (arith, few, one)

-- what is added behind another addition
pub adds_more : {X E : Type 0} (r : Result X E) (old between new first rest : List ℕ)
    → between ≡ old ++ first → OnOk r (new ≡ between ++ rest) → OnOk r (new ≡ old ++ (first ++ rest))
adds_more (Ok x) old between new first rest is h = h ∙ ap (λ l. l ++ rest) is ∙ append_assoc old first rest
adds_more (Err e) old between new first rest is h = tt
