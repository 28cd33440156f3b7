-- Choices by tests of which the answer is known.
use Rattle.std.proofs.Common.{◌≡◌, ℕ, Bool, true, false, cond, refl, ap, ne_eqb}
use Rattle.std.specs.Prelude.{◌||◌, ◌&&◌, ◌==◌, not}

pub on_true : {A : Type 0} (t : Bool) (x y : A) → t ≡ true → cond t x y ≡ x
on_true true x y e = refl
on_true false x y e = absurd (cc)

pub on_false : {A : Type 0} (t : Bool) (x y : A) → t ≡ false → cond t x y ≡ y
on_false true x y e = absurd (cc)
on_false false x y e = refl

-- x: a line feed, y: a carriage return, z: a line feed behind it

pub no_break : (x y z : Bool) → (x || y) ≡ false → (x || (y && not z)) ≡ false
no_break true y z e = absurd (cc)
no_break false true z e = absurd (cc)
no_break false false z e = refl

pub one_break : (x y z : Bool) → (x || y) ≡ true → (y && z) ≡ false → (x || (y && not z)) ≡ true
one_break true y z e f = refl
one_break false true true e f = absurd (cc)
one_break false true false e f = refl
one_break false false z e f = absurd (cc)

pub first_false : (x y : Bool) → (x || y) ≡ false → x ≡ false
first_false true y e = absurd (cc)
first_false false y e = refl

pub second_false : (x y : Bool) → (x || y) ≡ false → y ≡ false
second_false true y e = absurd (cc)
second_false false y e = e

pub not_true : (t : Bool) → (t ≡ true → ⊥) → t ≡ false
not_true true f = absurd (f refl)
not_true false f = refl

-- a carriage return without a line feed behind it, or another byte
pub alone : (x : ℕ) (f : Bool) → (x ≡ 13 → f ≡ true → ⊥) → (x == 13 && f) ≡ false
alone x true other = ap (λ t. t && true) (ne_eqb x 13 (λ is. other is refl))
alone x false other = off (x == 13)
  where
    off : (t : Bool) → t && false ≡ false
    off true = refl
    off false = refl
