-- How the characters of a line are counted (LSP 3.17, `positionEncoding`), by the bytes of UTF-8.
use Rattle.std.specs.Prelude.{ℕ, ◌&&◌, Bool, nat_lt, nat_le, if◌then◌else◌}
use Rattle.x_positions.specs.declared.encoding.Encoding.{Encoding}
use Rattle.x_positions.specs.declared.encoding.Encoding.TheVariants.{Utf8, Utf16}

-- the byte goes on with a character
abbrev pub is_inner : ℕ → Bool
is_inner b = nat_le 128 b && nat_lt b 192

-- how many bytes a character has, by its first one
abbrev pub utf8_length : ℕ → ℕ
utf8_length b = if nat_lt b 128 then 1 else if nat_lt b 224 then 2 else if nat_lt b 240 then 3 else 4

-- how many units of 16 bits it has
abbrev pub utf16_length : ℕ → ℕ
utf16_length b = if nat_lt b 240 then 1 else 2

abbrev pub length_by : Encoding → ℕ → ℕ
length_by Utf8 b = utf8_length b
length_by Utf16 b = utf16_length b

-- The units of the character that begins with a byte; a byte that goes on with a character has none.
abbrev pub unit : Encoding → ℕ → ℕ
unit encoding b = if is_inner b then 0 else length_by encoding b
