-- Numbers in order.
use Rattle.std.specs.Prelude.{◌≡◌, true, List, [], ◌∷◌, ℤ}
use lib.Signed.{lt_z}

-- each is greater than the one before
abbrev pub AreAscending : List ℤ → Type 0
AreAscending [] = Unit {0}
AreAscending (x ∷ []) = Unit {0}
AreAscending (x ∷ y ∷ rest) = (lt_z x y ≡ true) × AreAscending (y ∷ rest)
