-- Lines of a text that a walk over it keeps, and how far it has come in one.
use Rattle.std.specs.Prelude.{◌≡◌, ◌≤◌, ◌+◌, ◌*◌, ℕ, List, length, drop}
use Rattle.x_positions.specs.declared.encoding.Encoding.{Encoding}
use Rattle.x_positions.specs.declared.places.Line.{Line}
use Rattle.x_positions.specs.LineStarts.{IsLineStart}
use Rattle.x_positions.specs.Positions.{first_line, line_end, units_before}

-- this is a line of the text: its number and its start, its length without its end, and where the next starts
pub record IsLine (text : List ℕ) (line : Line) : Type 0 where
  pub starts : IsLineStart text line.number line.start
  pub length_is : line.length ≡ length (first_line (drop line.start text))
  pub within : line.start + line.length ≤ length text
  pub next_is : line.next ≡ line_end (drop line.start text)

-- so many bytes of a line have so many units
pub record HasUnits (encoding : Encoding) (text : List ℕ) (line : Line) (bytes units : ℕ) : Type 0 where
  pub within : bytes ≤ line.length
  pub units_are : units ≡ units_before encoding (first_line (drop line.start text)) bytes
  pub few : units ≤ 4 * bytes
