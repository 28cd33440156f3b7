-- Bytes of a text as a terminal shows them, and how wide they are.
use Rattle.std.specs.Prelude.{ℕ, Bool, ◌&&◌, ◌||◌, ◌==◌, nat_le, List, [], ◌∷◌, ◌++◌, codes, take}
use Rattle.std.specs.Prelude.{if◌then◌else◌}
use Rattle.hex.specs.Hex.{encode_lower}

-- a byte that is shown as itself: a tab, what is printable in ASCII, and in a line of UTF-8 all of it
abbrev pub is_shown : (is_utf8 : Bool) → ℕ → Bool
is_shown is_utf8 b = b == 9 || ((nat_le 32 b && nat_le b 126) || (is_utf8 && nat_le 128 b))

-- a byte as it is shown
abbrev pub shown_byte : (is_utf8 : Bool) → ℕ → List ℕ
shown_byte is_utf8 b = if is_shown is_utf8 b then b ∷ [] else codes "\\x" ++ encode_lower (b ∷ [])

-- a byte of UTF-8 within a character, which its first byte has the column of
abbrev pub is_within : ℕ → Bool
is_within b = nat_le 128 b && nat_le b 191

-- how many columns a byte has where it is shown
abbrev pub columns : (is_utf8 : Bool) → ℕ → ℕ
columns is_utf8 b = if is_shown is_utf8 b then (if is_within b then 0 else 1) else 4

-- as many spaces, but a tab for a tab, so that what comes after stands at the same column
abbrev pub blank : (is_utf8 : Bool) → ℕ → List ℕ
blank is_utf8 b = if b == 9 then b ∷ [] else take (columns is_utf8 b) (codes "    ")

-- as many marks
abbrev pub tildes : (is_utf8 : Bool) → ℕ → List ℕ
tildes is_utf8 b = take (columns is_utf8 b) (codes "~~~~")
