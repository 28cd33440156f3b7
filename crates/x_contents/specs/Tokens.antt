-- How the tokens of a document are told (LSP 3.17, `textDocument/semanticTokens/full`): of each what stands
-- in a line, by its distance from the one before.
use Rattle.std.specs.Prelude.{ℕ, zero, suc, ◌+◌, ◌-◌, ◌==◌, Bool, false, List, [], ◌∷◌, ◌++◌, map, drop}
use Rattle.std.specs.Prelude.{codes, decimal, slice_get, Option, None, Some, if◌then◌else◌}
use Rattle.std.specs.List.{flat_map}
use Rattle.serde_json.specs.Data.{Data, array, number, unsigned, object, member, no_members}
use Rattle.serde_json.specs.View.{items_of}
use Rattle.x_lex.specs.Places.{Lexeme}
use Rattle.x_trees.specs.Tree.{Definition}
use Rattle.x_names.specs.Declarers.{first_declarer}
use Rattle.x_names.specs.declared.names.Declarer.{Declarer}
use Rattle.x_compile.specs.Compile.{Item, definitions_of}
use Rattle.x_session.specs.ItemWalks.{over_items}
use Rattle.x_frames.specs.ListTexts.{ended}
use Rattle.x_positions.specs.Positions.{ends_line, position_of}
use Rattle.x_positions.specs.declared.encoding.Encoding.{Encoding}
use Rattle.x_positions.specs.declared.positions.Position.{Position}
use Rattle.x_contents.specs.TokenKinds.{kinds_in, type_of}
use Rattle.x_contents.specs.declared.tokens.TokenKind.{TokenKind}

-- the characters from the start of the last token, if that stands in the same line, or from the line's start
abbrev pub characters_from : (before start : Position) → ℕ
characters_from before start =
    if start.line - before.line == 0 then start.character - before.character else start.character

-- the numbers of a token: the lines and the characters from the one before, its length, its type, and that it
-- has no modifier
abbrev pub numbers_of : (before start end : Position) → TokenKind → List ℕ
numbers_of before start end kind = (start.line - before.line) ∷ characters_from before start
    ∷ (end.character - start.character) ∷ type_of kind ∷ 0 ∷ []

-- the numbers of tokens so far, and where the last one starts
pub record Told : Type 0 where
  pub numbers : List ℕ
  pub before : Position

-- what stands in a line from one position to another; nothing is told where that is nothing
abbrev pub with_piece : Told → (start end : Position) → TokenKind → Told
with_piece told start end kind = if end.character - start.character == 0 then told else
    record { numbers = told.numbers ++ numbers_of told.before start end kind; before = start }

-- a line ends at a place of a text
abbrev pub ends_here : List ℕ → Bool
ends_here [] = false
ends_here (b ∷ rest) = ends_line b rest

abbrev pub ends_at : (shown : List ℕ) → (at : ℕ) → Bool
ends_at shown at = ends_here (drop at shown)

-- A token that goes to a place `end`, so many bytes behind the place `at`, and of which this line begins at
-- `start`: it is told line by line.
abbrev pub with_lines : Encoding → (shown : List ℕ) → TokenKind → Told → (start end at left : ℕ) → Told
with_lines encoding shown kind told start end at zero =
    with_piece told (position_of encoding shown start) (position_of encoding shown end) kind
with_lines encoding shown kind told start end at (suc left) = if ends_at shown at
    then with_lines encoding shown kind (with_piece told (position_of encoding shown start)
    (position_of encoding shown at) kind) (at + 1) end (at + 1) left
    else with_lines encoding shown kind told start end (at + 1) left

-- a token; one that is of no kind is not told
abbrev pub with_token : Encoding → (shown : List ℕ) → Told → Lexeme → Option TokenKind → Told
with_token encoding shown told t None = told
with_token encoding shown told t (Some kind) =
    with_lines encoding shown kind told t.start t.end t.start (t.end - t.start)

abbrev pub kind_if : Option (Option TokenKind) → Option TokenKind
kind_if None = None
kind_if (Some kind) = kind

-- tokens of these kinds, where the first of them has this place
abbrev pub with_tokens : Encoding → (shown : List ℕ) → List (Option TokenKind) → Told → (at : ℕ) → List Lexeme
    → Told
with_tokens encoding shown kinds told at [] = told
with_tokens encoding shown kinds told at (t ∷ ts) =
    with_tokens encoding shown kinds (with_token encoding shown told t
    (kind_if (slice_get kinds at))) (at + 1) ts

-- the tokens of an item
abbrev pub with_item_tokens : Encoding → (shown : List ℕ) → (first : List ℕ → Option Declarer) → Told
    → List Lexeme → Option Definition → Told
with_item_tokens encoding shown first told tokens definition =
    with_tokens encoding shown (kinds_in first tokens definition) told 0 tokens

abbrev pub none_told : Told
none_told = record { numbers = []; before = record { line = 0; character = 0 } }

-- the numbers of the tokens of a text with these items, as it is shown
abbrev pub numbers_in : Encoding → (shown : List ℕ) → List Item → List ℕ
numbers_in encoding shown items =
    let first = first_declarer (definitions_of items) in
    (over_items (with_item_tokens encoding shown first) none_told items).numbers

-- `SemanticTokens`
abbrev pub tokens_data : (numbers : List ℕ) → Data
tokens_data numbers =
    object (member (codes "data") (array (items_of (map (λ n. number (unsigned n)) numbers))) no_members)

-- ---- as it is written (RFC 8259)

abbrev pub number_text : ℕ → List ℕ
number_text n = decimal n ++ codes ","

abbrev pub tokens_text : (numbers : List ℕ) → List ℕ
tokens_text numbers = codes "{\"data\":" ++ ended (codes "[" ++ flat_map number_text numbers) ++ codes "}"
