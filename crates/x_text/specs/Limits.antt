-- The limit of texts.
use Rattle.std.specs.Prelude.{ℕ}

-- the most bytes of a text (this project)
abbrev pub most_text : ℕ
most_text = 16777216
