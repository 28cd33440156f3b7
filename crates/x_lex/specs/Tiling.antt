-- The tokens of a text, each with its kind and length, one after another.
use Rattle.std.specs.Prelude.{◌≡◌, ℕ, ◌-◌, ◌==◌, Bool, true, List, [], ◌∷◌, drop, slice_index}
use Rattle.x_lists.specs.Lengths.{total_length, length_before}
use Rattle.x_lex.specs.declared.kind.Kind.{Kind}
use Rattle.x_lex.specs.Word.{IsToken}

-- whether the place behind the first `len` bytes of rest, one or more, is a line start
abbrev pub starts_after : List ℕ → ℕ → Bool
starts_after rest len = slice_index rest (len - 1) == 10

-- ts are the tokens of rest, where `start` says whether rest begins at a line start
abbrev pub Tiles : Bool → List ℕ → List (Kind × ℕ) → Type 0
Tiles start rest [] = rest ≡ []
Tiles start rest (t ∷ ts) = IsToken t.0 start rest t.1 × Tiles (starts_after rest t.1) (drop t.1 rest) ts

-- ts are the tokens of the whole text
abbrev pub AreTokens : List ℕ → List (Kind × ℕ) → Type 0
AreTokens text ts = Tiles true text ts

-- how many bytes a token has
abbrev pub bytes_of : Kind × ℕ → ℕ
bytes_of token = token.1

-- how many bytes the tokens have together
abbrev pub span : List (Kind × ℕ) → ℕ
span ts = total_length bytes_of ts

-- the place behind the first i tokens
abbrev pub end_of : List (Kind × ℕ) → ℕ → ℕ
end_of ts i = length_before bytes_of ts i
