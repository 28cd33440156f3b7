-- Positions in a text (LSP 3.17): a line and a character in it, both counted from 0.
use Rattle.std.specs.Prelude.{◌≡◌, ℕ, zero, suc, ◌+◌, ◌-◌, ◌<◌, ◌≤◌, ◌==◌, ◌||◌, ◌&&◌, not}
use Rattle.std.specs.Prelude.{Bool, false, nat_le}
use Rattle.std.specs.Prelude.{List, [], ◌∷◌, length, take, sum_by, slice_index, if◌then◌else◌}
use Rattle.std.specs.Prelude.{Option, None, Some, option_map}
use Rattle.x_positions.specs.declared.encoding.Encoding.{Encoding}
use Rattle.x_positions.specs.declared.positions.Position.{Position}
use Rattle.x_positions.specs.Encodings.{is_inner, unit}

-- the text begins with a line feed
abbrev pub starts_feed : List ℕ → Bool
starts_feed [] = false
starts_feed (b ∷ rest) = b == 10

-- A line ends behind this byte, which stands before the rest: a line end is "\n", "\r\n" or "\r".
abbrev pub ends_line : ℕ → List ℕ → Bool
ends_line b rest = b == 10 || (b == 13 && not (starts_feed rest))

-- what stands behind so many line ends; nothing where there are fewer
abbrev pub behind_lines : ℕ → List ℕ → List ℕ
behind_lines zero text = text
behind_lines (suc n) [] = []
behind_lines (suc n) (b ∷ rest) = if ends_line b rest then behind_lines n rest else behind_lines (suc n) rest

-- a byte of a line end
abbrev pub is_break : ℕ → Bool
is_break b = b == 10 || b == 13

-- the first line of a text, without its end
abbrev pub first_line : List ℕ → List ℕ
first_line [] = []
first_line (b ∷ rest) = if is_break b then [] else b ∷ first_line rest

-- where the first line of a text ends, with its end, if it has one
abbrev pub line_end : List ℕ → Option ℕ
line_end [] = None
line_end (b ∷ rest) = if ends_line b rest then Some 1 else option_map suc (line_end rest)

-- where a line starts; where there are fewer lines, the end of the text
abbrev pub line_start : List ℕ → ℕ → ℕ
line_start text line = length text - length (behind_lines line text)

-- a line, without its end
abbrev pub line_at : List ℕ → ℕ → List ℕ
line_at text line = first_line (behind_lines line text)

-- how many bytes of a line are of characters that end within so many units
abbrev pub place_within : Encoding → List ℕ → ℕ → ℕ
place_within encoding [] units = 0
place_within encoding (b ∷ rest) units =
    if nat_le (unit encoding b) units then suc (place_within encoding rest (units - unit encoding b)) else 0

-- The place of a position. A character past the line's end is the line's end, one within a character is that
-- character's start, and a line past the last one is the end of the text.
abbrev pub offset_of : Encoding → List ℕ → Position → ℕ
offset_of encoding text position =
    line_start text position.line + place_within encoding (line_at text position.line) position.character

-- how many line ends stand before a place
abbrev pub lines_before : List ℕ → ℕ → ℕ
lines_before text zero = 0
lines_before [] (suc at) = 0
lines_before (b ∷ rest) (suc at) = (if ends_line b rest then 1 else 0) + lines_before rest at

-- how many units stand in a line before a place of it; all where the place is behind the line
abbrev pub units_before : Encoding → List ℕ → ℕ → ℕ
units_before encoding line at = sum_by (unit encoding) (take at line)

-- the position of a place
abbrev pub position_of : Encoding → List ℕ → ℕ → Position
position_of encoding text at = let line = lines_before text at in record {
  line = line;
  character = units_before encoding (line_at text line) (at - line_start text line);
}

-- a place stands in a text between two characters, and not within a line end
pub record IsBetween (text : List ℕ) (at : ℕ) : Type 0 where
  pub within : at ≤ length text
  pub not_inner : is_inner (slice_index text at) ≡ false
  pub not_in_end : 0 < at → (slice_index text (at - 1) == 13 && slice_index text at == 10) ≡ false

-- a text, and how its characters are counted
pub record EncodedText : Type 0 where
  pub encoding : Encoding
  pub text : List ℕ
