-- Where comments of several lines stand. The language passes over a line that begins with `%`, and over a
-- marker, so that no comment begins on one.
use Rattle.std.specs.Prelude.{ℕ, Bool, true, ◌||◌, ◌&&◌, ◌==◌, not, if◌then◌else◌, List, [], ◌∷◌}
use Rattle.x_lex.specs.Bytes.{is_space}

-- the two bytes end a comment if one goes on before them, and else they begin one
unfoldable pub turns : Bool → ℕ → ℕ → Bool
turns commented a b = if commented then a == 42 && b == 47 else a == 47 && b == 42

-- whether a comment goes on behind these bytes; `commented` says that one goes on before them
unfoldable pub commented_behind : Bool → List ℕ → Bool
commented_behind commented [] = commented
commented_behind commented (a ∷ []) = commented
commented_behind commented (a ∷ b ∷ bytes) =
    if turns commented a b then commented_behind (not commented) bytes
    else commented_behind commented (b ∷ bytes)

-- nothing but white space and comments
unfoldable pub is_bare : Bool → List ℕ → Bool
is_bare commented [] = true
is_bare commented (a ∷ []) = commented || is_space a
is_bare commented (a ∷ b ∷ bytes) =
    if turns commented a b then is_bare (not commented) bytes
    else (commented || is_space a) && is_bare commented (b ∷ bytes)
