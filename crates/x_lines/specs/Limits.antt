-- The limit of lines.
use Rattle.std.specs.Prelude.{ℕ}

-- the most bytes of a line of a script, without its line feed (this project)
abbrev pub most_line : ℕ
most_line = 33600000
