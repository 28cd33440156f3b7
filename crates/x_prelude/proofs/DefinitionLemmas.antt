-- The definition of one name.
use Rattle.std.proofs.Common.{◌≡◌, ℕ, Bool, true, false, List, [], refl, Result, Ok, Err, OnOk}
use Rattle.std.specs.Prelude.{if◌then◌else◌}

-- what follows where there is no error
pub on_ok : {T E P Q : Type 0} (r : Result T E) → (P → Q) → OnOk r P → OnOk r Q
on_ok (Ok x) f h = f h
on_ok (Err e) f h = tt

-- what is added of a name that is no type of C
pub added_whole : (b : Bool) (text : List ℕ) → b ≡ false → text ≡ (if b then [] else text)
added_whole true text e = absurd (cc)
added_whole false text e = refl
