-- Heights, as far as they are counted.
use Rattle.std.proofs.Common.{◌≡◌, ℕ, suc, ◌+◌, ◌-◌, ◌^◌, min, max, arith}
use Rattle.x_rules.specs.Tables.{capped}

-- one more is held
pub higher : (h r a b total : ℕ) → r ≡ capped a → max h (capped (max a b)) ≡ total
    → max (max h r) (capped b) ≡ total
higher h r a b total e all = omega (arith, e, all)

-- no more is held
pub highest : (h total : ℕ) → max h (capped 0) ≡ total → h ≡ total
highest h total all = omega (arith, all)

-- one type around what is held
pub around : (r n h : ℕ) → r ≡ min (h + 1) (2 ^ 32 - 1) → h ≡ capped n → r ≡ capped (suc n)
around r n h e f = omega (arith, e, f)

pub higher_two : (a b x y : ℕ) → a ≡ capped x → b ≡ capped y → max a b ≡ capped (max x y)
higher_two a b x y e f = omega (arith, e, f)
