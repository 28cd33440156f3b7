-- Bytes in a string of JSON (RFC 8259, section 7).
use Rattle.std.specs.Prelude.{ℕ, Bool, not, ◌&&◌, ◌==◌, nat_le, nat_lt}

-- a byte of ASCII that stands for itself there
abbrev pub is_plain_byte : ℕ → Bool
is_plain_byte b = nat_le 32 b && nat_lt b 127 && not (b == 34) && not (b == 92)
