-- Tokens at their places in the whole text.
use Rattle.std.specs.Prelude.{◌≡◌, ℕ, ◌+◌, ◌-◌, ◌<◌, ◌≤◌, ◌==◌, ◌||◌, Bool, List, [], ◌∷◌, All, length, drop}
use Rattle.std.specs.Prelude.{slice_index, slice_range}
use Rattle.x_lex.specs.declared.kind.Kind.{Kind}
use Rattle.x_lex.specs.declared.tokens.token.Token.{Token}
use Rattle.x_lex.specs.Word.{IsWord}

-- a token, where it stands in its text, and its bytes
pub record Lexeme : Type 0 where
  pub kind : Kind
  pub start : ℕ
  pub end : ℕ
  pub text : List ℕ

-- what a token of the program stands for
abbrev pub lexeme : Token → Lexeme
lexeme token = record { kind = token.kind; start = token.start; end = token.end; text = token.text.now }

-- the kind, start and end of each token, the first of which starts at `at`
abbrev pub places_from : ℕ → List (Kind × ℕ) → List (Kind × ℕ × ℕ)
places_from at [] = []
places_from at (t ∷ ts) = (t.0, at, at + t.1) ∷ places_from (at + t.1) ts

-- the kind, start and end of each token of a text
abbrev pub places : List (Kind × ℕ) → List (Kind × ℕ × ℕ)
places ts = places_from 0 ts

-- the token at a place of a text
abbrev pub lexeme_at : List ℕ → Kind × ℕ × ℕ → Lexeme
lexeme_at text place =
    record { kind = place.0; start = place.1; end = place.2; text = slice_range text place.1 place.2 }

-- the tokens of a text where they stand, the first of them at `at`
abbrev pub lexemes_from : List ℕ → ℕ → List (Kind × ℕ) → List Lexeme
lexemes_from text at [] = []
lexemes_from text at (t ∷ ts) = lexeme_at text (t.0, at, at + t.1) ∷ lexemes_from text (at + t.1) ts

-- the tokens of a text where they stand
abbrev pub lexemes : List ℕ → List (Kind × ℕ) → List Lexeme
lexemes text ts = lexemes_from text 0 ts

-- a place is a line start if it is 0 or stands behind a line feed
abbrev pub is_line_start : List ℕ → ℕ → Bool
is_line_start text at = at == 0 || slice_index text (at - 1) == 10

-- the bytes of the text from `start` to before `end` are a word of that kind where they stand
abbrev pub IsWordAt : List ℕ → Kind → ℕ → ℕ → Type 0
IsWordAt text kind start end = IsWord kind (is_line_start text start) (drop start text) (end - start)

-- they are, and no word that begins there ends later
pub record IsTokenAt (text : List ℕ) (kind : Kind) (start end : ℕ) : Type 0 where
  pub word : IsWordAt text kind start end
  pub longest : (other : Kind) (place : ℕ) → IsWordAt text other start place → place ≤ end

-- it is the token at its place, with its bytes
pub record IsLexeme (text : List ℕ) (l : Lexeme) : Type 0 where
  pub token : IsTokenAt text l.kind l.start l.end
  pub bytes : l.text ≡ slice_range text l.start l.end

-- each starts where the one before it ends, the first at `at`, the last ends at `stop`, and none is empty
abbrev pub Follow : ℕ → List Lexeme → ℕ → Type 0
Follow at [] stop = at ≡ stop
Follow at (l ∷ ls) stop = (l.start ≡ at) × (l.start < l.end) × Follow l.end ls stop

-- they follow one another from the start of the text to its end, and each is the token at its place
pub record TilesByPlace (text : List ℕ) (ls : List Lexeme) : Type 0 where
  pub follow : Follow 0 ls (length text)
  pub each : All (IsLexeme text) ls
