-- At which column of a terminal a text ends.
use Rattle.std.specs.Prelude.{◌≡◌, ◌<◌, ◌≤◌, ℕ, suc, ◌+◌, ◌*◌, ◌/◌, ◌^◌, ◌==◌, List, [], ◌∷◌, ◌++◌, codes}
use Rattle.std.specs.Prelude.{length, if◌then◌else◌}
use Rattle.std.specs.Fmt.{decimal}
use Rattle.x_explain.specs.Excerpts.{Excerpt}
use Rattle.x_explain.specs.Explained.{blank_front, gutter, number_field, shown_front}
use Rattle.x_explain.specs.Shown.{is_within}

-- the column after a byte that is written at a column, both from 0: a tab goes to the next stop, of which
-- there is one each so many columns, and a byte within a character goes nowhere
abbrev pub step : (stop column byte : ℕ) → ℕ
step stop column byte =
    if byte == 9 then (column / stop + 1) * stop else if is_within byte then column else suc column

-- the column after a text
abbrev pub ends_at : (stop column : ℕ) → List ℕ → ℕ
ends_at stop column [] = column
ends_at stop column (b ∷ bs) = ends_at stop (step stop column b) bs

-- The mark stands under the first byte of the word: in the line with the mark, the room before it ends at the
-- column at which, in the line of the text with this number, what is shown before the word ends. A number has
-- ten digits at most.
abbrev pub IsUnderWord : ℕ → Excerpt → Type 0
IsUnderWord line e = (stop : ℕ) → 0 < line → line < 2 ^ 64 → length (decimal line) ≤ 10
    → ends_at stop 0 (gutter line ++ codes " | " ++ blank_front e)
    ≡ ends_at stop 0 (number_field line ++ codes " | " ++ shown_front e)
