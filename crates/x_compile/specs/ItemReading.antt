-- Reading the tokens of an item, word by word.
use Rattle.std.specs.Prelude.{ℕ, ◌+◌, ◌-◌, ◌==◌, List, take, if◌then◌else◌}
use Rattle.x_lex.specs.Places.{Lexeme}
use Rattle.x_compile.specs.Compile.{start_of, token_of_word}
use Rattle.x_compile.specs.declared.reader.WordPlace.{WordPlace}

-- Tokens of an item are read: `walk` are those that are not read yet, `left` of the item and all behind it;
-- `words` of the `read` ones are words, of which the last stands at `last`.
pub record ItemReading : Type 0 where
  pub walk : List Lexeme
  pub left : ℕ
  pub read : ℕ
  pub words : ℕ
  pub last : WordPlace

-- the place of a word, of tokens behind the first so many of the item
abbrev pub word_place : List Lexeme → ℕ → ℕ → WordPlace
word_place left read word = record {
  token = read + token_of_word left word;
  start = start_of left (token_of_word left word);
}

-- the tokens of the item that are not read yet
abbrev pub unread : ItemReading → List Lexeme
unread r = take r.left r.walk

-- the place of a word that is the last one that was read, or was not read yet
abbrev pub place_read : ItemReading → ℕ → WordPlace
place_read r word = if word + 1 == r.words then r.last else word_place (unread r) r.read (word - r.words)
