-- Choices by tests of which the answer is known.
use Rattle.std.proofs.Common.{◌≡◌, Bool, true, false, cond, refl}

pub on_true : {A : Type 0} (t : Bool) (x y : A) → t ≡ true → cond t x y ≡ x
on_true true x y e = refl
on_true false x y e = absurd (cc)

pub on_false : {A : Type 0} (t : Bool) (x y : A) → t ≡ false → cond t x y ≡ y
on_false true x y e = absurd (cc)
on_false false x y e = refl
