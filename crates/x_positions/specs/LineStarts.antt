-- Where the lines of a text start.
use Rattle.std.specs.Prelude.{◌≡◌, ◌≤◌, ℕ, List, length, drop}
use Rattle.x_positions.specs.Positions.{behind_lines, lines_before}

-- this line starts at this place of the text
pub record IsLineStart (text : List ℕ) (line start : ℕ) : Type 0 where
  pub within : start ≤ length text
  pub few : line ≤ start
  pub before : lines_before text start ≡ line
  pub behind : behind_lines line text ≡ drop start text
