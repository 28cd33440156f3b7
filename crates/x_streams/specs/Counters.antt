-- Counters of 64 bits.
use Rattle.std.specs.Prelude.{ℕ, ◌+◌, ◌-◌, ◌^◌, min}

-- a counter after k more, which stays at the greatest number of 64 bits
abbrev pub raised : ℕ → ℕ → ℕ
raised n k = min (n + k) (2 ^ 64 - 1)
