-- The limit of trees.
use Rattle.std.specs.Prelude.{ℕ}

-- how many inline bodies may stand inside one another (this project)
abbrev pub most_inline : ℕ
most_inline = 32
