-- Where a place of a text stands, by line and column, both counted from 1.
use Rattle.std.specs.Prelude.{◌≡◌, ℕ, ◌+◌, ◌==◌, ◌≤◌, Bool, not, List, take, length, count_by, reverse}
use Rattle.std.specs.List.{prefix_len}

abbrev pub is_line_feed : ℕ → Bool
is_line_feed b = b == 10

abbrev pub is_in_line : ℕ → Bool
is_in_line b = not (is_line_feed b)

-- 1 and the line feeds before the place
abbrev pub line_of : List ℕ → ℕ → ℕ
line_of text at = 1 + count_by is_line_feed (take at text)

-- 1 and the bytes since the last line feed before the place
abbrev pub column_of : List ℕ → ℕ → ℕ
column_of text at = 1 + prefix_len is_in_line (reverse (take at text))

-- the line feeds before the place, and the bytes since the last of them
pub record AreCounts (text : List ℕ) (at feeds since : ℕ) : Type 0 where
  pub small : length text ≤ 16777216
  pub within : at ≤ length text
  pub feeds_are : feeds ≡ count_by is_line_feed (take at text)
  pub since_is : since ≡ prefix_len is_in_line (reverse (take at text))
