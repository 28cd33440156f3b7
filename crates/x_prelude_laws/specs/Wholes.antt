-- Texts behind which another text goes on with items of its own.
use Rattle.std.specs.Prelude.{◌≡◌, ◌⊎◌, ℕ, ◌-◌, List, [], ◌∷◌, ◌++◌, length, slice_index}
use Rattle.x_lex.specs.declared.kind.Kind.{Kind}
use Rattle.x_lex.specs.Places.{Lexeme, lexemes}
use Rattle.x_lex.specs.Tiling.{AreTokens}
use Rattle.x_cutting.specs.Items.{AreItems}
use Rattle.x_trees.specs.Words.{words_of}

-- the text is empty, or its last byte is a line feed
abbrev pub EndsLine : List ℕ → Type 0
EndsLine text = (text ≡ []) ⊎ (slice_index text (length text - 1) ≡ 10)

-- the text ends a line, and there is no word behind the last `;` that ends an item
pub record EndsWhole (text : List ℕ) : Type 0 where
  pub ends_line : EndsLine text
  pub tokens : List (Kind × ℕ)
  pub are_tokens : AreTokens text tokens
  pub whole : List (List Lexeme)
  pub last : List Lexeme
  pub are_items : AreItems (lexemes text tokens) (whole ++ last ∷ [])
  pub no_words : words_of last ≡ []
