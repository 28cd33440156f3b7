-- Whether a text has faults.
use Rattle.std.proofs.Common.{◌≡◌, ℕ, ◌≤◌, List, [], ◌∷◌, length, refl, arith}
use Rattle.x_compile.specs.declared.fault.Fault.{Fault}

pub no_faults : (n : ℕ) (faults : List Fault) → n ≡ length faults → n ≤ 0 → faults ≡ []
no_faults n [] long none = refl
no_faults n (f ∷ fs) long none = absurd (omega (arith, long, none))
