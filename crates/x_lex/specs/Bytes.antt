-- The classes of bytes, and what the spelling of a word says of its kind (RFC 4506, section 6.2).
use Rattle.std.specs.Prelude.{ℕ, Bool, ◌||◌, ◌&&◌, ◌==◌, nat_le, nat_lt, List, [], ◌∷◌, codes, length, drop}
use Rattle.std.specs.Prelude.{slice_index, is_some}
use Rattle.std.specs.List.{list_all, prefix_len}
use Rattle.x_lex.specs.Marks.{mark_of}

-- the byte is one of those from low to high
abbrev pub is_between : ℕ → ℕ → ℕ → Bool
is_between low high b = nat_le low b && nat_le b high

-- tab, line feed, vertical tab, form feed, carriage return or space
abbrev pub is_space : ℕ → Bool
is_space b = is_between 9 13 b || b == 32

-- `0` to `9`
abbrev pub is_digit : ℕ → Bool
is_digit b = is_between 48 57 b

-- `A` to `Z`, `a` to `z` or `_`
abbrev pub is_letter : ℕ → Bool
is_letter b = is_between 65 90 b || is_between 97 122 b || b == 95

-- a letter, `_` or a digit
abbrev pub is_word_byte : ℕ → Bool
is_word_byte b = is_letter b || is_digit b

-- the byte alone is a mark: of bytes those of punctuation are
abbrev pub is_punct : ℕ → Bool
is_punct b = is_some (mark_of (b ∷ []))

-- a space or a tab
abbrev pub is_blank : ℕ → Bool
is_blank b = b == 32 || b == 9

-- any byte but a line feed
abbrev pub is_in_line : ℕ → Bool
is_in_line b = nat_le b 9 || nat_le 11 b

-- `0` to `9`, `a` to `f` or `A` to `F`
abbrev pub is_hex_digit : ℕ → Bool
is_hex_digit b = is_digit b || is_between 97 102 b || is_between 65 70 b

-- `0` to `7`
abbrev pub is_octal_digit : ℕ → Bool
is_octal_digit b = is_between 48 55 b

-- `1` to `9`, then digits
abbrev pub is_decimal : List ℕ → Bool
is_decimal w = is_between 49 57 (slice_index w 0) && list_all is_digit (drop 1 w)

-- `-`, then a decimal number
abbrev pub is_negative : List ℕ → Bool
is_negative w = slice_index w 0 == 45 && is_decimal (drop 1 w)

-- `0`, then octal digits
abbrev pub is_octal : List ℕ → Bool
is_octal w = slice_index w 0 == 48 && list_all is_octal_digit (drop 1 w)

-- `0x` or `0X`, then one or more hexadecimal digits
abbrev pub is_hex : List ℕ → Bool
is_hex w = slice_index w 0 == 48 && (slice_index w 1 == 120 || slice_index w 1 == 88) && nat_lt 2 (length w)
    && list_all is_hex_digit (drop 2 w)

-- a number in decimal, octal or hexadecimal form
unfoldable pub is_number : List ℕ → Bool
is_number w = is_decimal w || is_negative w || is_octal w || is_hex w

-- behind the first byte and blanks stands a digit
unfoldable pub is_marker : List ℕ → Bool
is_marker w = is_digit (slice_index (drop 1 w) (prefix_len is_blank (drop 1 w)))

-- the word is a mark: of words of letters the keywords are
abbrev pub is_keyword : List ℕ → Bool
is_keyword w = is_some (mark_of w)

-- `*/`
abbrev pub close : List ℕ
close = codes "*/"
