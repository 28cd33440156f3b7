-- Texts that are put together of parts.
use Rattle.std.specs.Prelude.{ℕ, List, [], ◌∷◌, ◌++◌}

-- the parts, behind a text
abbrev pub behind : List ℕ → List (List ℕ) → List ℕ
behind text [] = text
behind text (p ∷ ps) = behind (text ++ p) ps

-- the parts, one behind another
abbrev pub together : List (List ℕ) → List ℕ
together [] = []
together (p ∷ ps) = behind p ps
