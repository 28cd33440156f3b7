-- Names that are taken from C.
use Rattle.std.proofs.Common.{◌≡◌, Bool, true, false, List, [], refl}
use Rattle.std.specs.Prelude.{not, if◌then◌else◌}

-- they are listed where they may be taken
pub if_taken : {X : Type 0} (b : Bool) (xs : List X) → not b ≡ false → xs ≡ (if b then xs else [])
if_taken true xs e = refl
if_taken false xs e = absurd (cc)
