-- Texts of messages.
use Rattle.std.specs.Prelude.{◌≡◌, ℕ, List, ◌++◌}

-- the second text goes on where the first ends
abbrev pub GoesOn : List ℕ → List ℕ → Type 0
GoesOn text longer = (more : List ℕ) × (longer ≡ text ++ more)
