-- The numbers of the language, as they are spelled (RFC 4506, section 6.2).
use Rattle.std.specs.Prelude.{ℕ, ◌+◌, ◌-◌, ◌*◌, ◌^◌, Bool, ◌&&◌, ◌||◌, ◌==◌, nat_le, nat_lt, List, [], ◌∷◌}
use Rattle.std.specs.Prelude.{drop, slice_index, ℤ, pos, ◌+ℤ◌, negsuc, neg_ℤ, false, if◌then◌else◌}
use Rattle.std.specs.Prelude.{Option, Some, None, option_and_then}

-- the value of a digit: 0 to 9, a to f or A to F
abbrev pub digit_value : ℕ → ℕ
digit_value b = if nat_lt b 58 then b - 48 else (if nat_lt b 97 then b - 55 else b - 87)

-- the number that the digits stand for, behind digits that stand for `high`
abbrev pub value_behind : ℕ → ℕ → List ℕ → ℕ
value_behind base high [] = high
value_behind base high (b ∷ bs) = value_behind base (high * base + digit_value b) bs

-- the number that the digits stand for, the first of them the highest
abbrev pub value_in : ℕ → List ℕ → ℕ
value_in base digits = value_behind base 0 digits

-- a number is negative where it begins with `-`
abbrev pub is_negative : List ℕ → Bool
is_negative text = slice_index text 0 == 45

abbrev pub is_hexadecimal : List ℕ → Bool
is_hexadecimal text = slice_index text 0 == 48 && (slice_index text 1 == 120 || slice_index text 1 == 88)

-- the number without its sign: hexadecimal behind `0x` or `0X`, octal behind `0`, else decimal
unfoldable pub magnitude : List ℕ → ℕ
magnitude text =
    if is_hexadecimal text then value_in 16 (drop 2 text)
    else (if slice_index text 0 == 48 then value_in 8 (drop 1 text)
    else (if is_negative text then value_in 10 (drop 1 text) else value_in 10 text))

-- whether the number is one that a constant may have: from -2^63 to 2^64-1
unfoldable pub in_range : List ℕ → Bool
in_range text =
    if is_negative text then nat_le (magnitude text) (2 ^ 63) else nat_lt (magnitude text) (2 ^ 64)

-- the number that the text stands for
unfoldable pub value : List ℕ → ℤ
value text = if is_negative text then neg_ℤ (pos (magnitude text)) else pos (magnitude text)

-- whether the number is a size, or the number of a program, a version or a procedure: from 0 to 2^32-1
abbrev pub is_word_number : ℤ → Bool
is_word_number (pos n) = nat_lt n (2 ^ 32)
is_word_number (negsuc n) = false

-- whether the number is the value of an enum: from -2^31 to 2^31-1
abbrev pub is_enum_number : ℤ → Bool
is_enum_number (pos n) = nat_lt n (2 ^ 31)
is_enum_number (negsuc n) = nat_lt n (2 ^ 31)

abbrev pub is_zero : ℤ → Bool
is_zero (pos n) = n == 0
is_zero (negsuc n) = false

-- the number that a spelling stands for, if a constant may have it
abbrev pub number_spelled : List ℕ → Option ℤ
number_spelled text = if in_range text then Some (value text) else None

-- One more than the number before (RFC 4506, section 4.3). There is none behind a value with a fault, and a
-- number that no enum may have makes one: at the value that is given, or at the name of an enumerator without
-- a value.
abbrev pub next_number : Option ℤ → Option ℤ
next_number before = option_and_then (λ z. if is_enum_number z then Some (z +ℤ pos 1) else None) before
