-- The limits of definitions beyond their spelling.
use Rattle.std.specs.Prelude.{ℕ}

-- the greatest height of a type (this project)
abbrev pub most_height : ℕ
most_height = 32
