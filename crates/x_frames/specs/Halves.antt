-- Halves of pairs of surrogates in a text of JSON (RFC 8259, sections 7 and 8.2): an escape may stand for
-- one, and there is no character for it.
use Rattle.std.specs.Prelude.{ℕ, Bool, ◌||◌, ◌&&◌, ◌==◌, if◌then◌else◌, List, [], ◌∷◌, slice_index}
use Rattle.std.specs.Int.{is_in_range}
use Rattle.x_frames.specs.declared.halves.Escape.{Escape}
use Rattle.x_frames.specs.declared.halves.Escape.TheVariants as escape
use Rattle.x_frames.specs.declared.halves.Escape.TheVariants.{Backslash, Letter, One, Two, Three}

-- the first two digits of a half: from D8 to DF
abbrev pub is_half : (byte next : ℕ) → Bool
is_half byte next = (byte == 68 || byte == 100)
    && (is_in_range 56 57 next || is_in_range 65 70 next || is_in_range 97 102 next)

-- how far an escape is behind a byte, with this one next to it
abbrev pub behind : Escape → (byte next : ℕ) → Escape
behind escape.None byte next = if byte == 92 then Backslash else escape.None
behind Backslash byte next = if byte == 117 then Letter else escape.None
behind Letter byte next = if is_half byte next then One else escape.None
behind One byte next = Two
behind Two byte next = Three
behind Three byte next = escape.None

-- what the byte becomes: the digits of a half become those of a question mark, 003f
abbrev pub put : Escape → (byte next : ℕ) → ℕ
put escape.None byte next = byte
put Backslash byte next = byte
put Letter byte next = if is_half byte next then 48 else byte
put One byte next = 48
put Two byte next = 51
put Three byte next = 102

unfoldable pub mended_from : Escape → List ℕ → List ℕ
mended_from escape [] = []
mended_from escape (b ∷ bytes) =
    put escape b (slice_index bytes 0) ∷ mended_from (behind escape b (slice_index bytes 0)) bytes

-- a text with a question mark in place of each half
abbrev pub mended : List ℕ → List ℕ
mended text = mended_from escape.None text
