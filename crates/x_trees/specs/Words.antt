-- The words of a list of tokens.
use Rattle.std.specs.Prelude.{ℕ, Bool, true, false, List, Option, Some, None, map}
use Rattle.std.specs.List.{filter}
use Rattle.x_lex.specs.declared.kind.Kind.{Kind}
use Rattle.x_lex.specs.declared.kind.Kind.TheVariants as kinds
use Rattle.x_lex.specs.Places.{Lexeme}
use Rattle.x_lex.specs.declared.mark.Mark.{Mark}
use Rattle.x_lex.specs.Marks.{mark_of}

-- a token counts unless it is of one of these kinds
abbrev pub is_significant : Kind → Bool
is_significant kinds.Space = false
is_significant kinds.Comment = false
is_significant kinds.Percent = false
is_significant kinds.Marker = false
is_significant kind = true

-- a significant token, wherever it stands: a keyword or punctuation mark, a name, a number, or a token of no
-- spelling
pub data Word : Type 0 where
  Fixed : (mark : Mark) → Word
  Name : (text : List ℕ) → Word
  Number : (text : List ℕ) → Word
  Other : Word

-- what was found among the marks
abbrev pub marked : Option Mark → Word
marked None = Other
marked (Some mark) = Fixed mark

-- the word of a token, by its kind and its bytes
unfoldable pub word_by : Kind → List ℕ → Word
word_by kinds.Keyword text = marked (mark_of text)
word_by kinds.Punct text = marked (mark_of text)
word_by kinds.Name text = Name text
word_by kinds.Number text = Number text
word_by kind text = Other

-- the word that a token is
abbrev pub word_of : Lexeme → Word
word_of t = word_by t.kind t.text

-- the words of the tokens, in order
abbrev pub words_of : List Lexeme → List Word
words_of tokens = map word_of (filter (λ t. is_significant t.kind) tokens)
