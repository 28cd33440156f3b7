-- Where the words of a text start, and who declares its names.
use Rattle.std.specs.Prelude.{◌≡◌, ℕ, List, Option, map, option_and_then, option_map, slice_get}
use Rattle.std.specs.List.{filter}
use Rattle.x_text.specs.Text.{line_of, column_of}
use Rattle.x_lex.specs.Places.{Lexeme}
use Rattle.x_trees.specs.Words.{is_significant}
use Rattle.x_names.specs.Declarers.{first_declarer}
use Rattle.x_names.specs.DeclarerTable.{first_in}
use Rattle.x_names.specs.declared.names.Declarer.{Declarer}
use Rattle.x_compile.specs.Compile.{Item, definitions_of}
use Rattle.x_session.specs.declared.declared.DeclaredNames.{DeclaredNames}
use Rattle.x_session.specs.declared.declared.FirstPlace.{FirstPlace}
use Rattle.x_session.specs.declared.declared.Spot.{Spot}

-- the words of an item: its tokens that count
abbrev pub words_in : List Lexeme → List Lexeme
words_in tokens = filter (λ t. is_significant t.kind) tokens

-- the token of a word of the item at an index
abbrev pub word_of_item : List Item → (item word : ℕ) → Option Lexeme
word_of_item items item word =
    option_and_then (λ i. slice_get (words_in i.tokens) word) (slice_get items item)

abbrev pub word_at : List Item → Declarer → Option Lexeme
word_at items d = word_of_item items d.item d.word

-- the token that declares a name first
abbrev pub definition_of : List Item → List ℕ → Option Lexeme
definition_of items name = option_and_then (word_at items) (first_declarer (definitions_of items) name)

-- a place of a text, with its line and its column
abbrev pub spot_at : List ℕ → ℕ → Spot
spot_at text start = record { start = start; line = line_of text start; column = column_of text start }

-- where a name is declared first, and what it is declared as
abbrev pub declared_at : Declarer → Spot → FirstPlace
declared_at d spot = record { kind = d.kind; spot = spot }

abbrev pub first_place_by : List ℕ → List Item → Declarer → Option FirstPlace
first_place_by text items d = option_map (λ t. declared_at d (spot_at text t.start)) (word_at items d)

abbrev pub first_place : List ℕ → List Item → List ℕ → Option FirstPlace
first_place text items name =
    option_and_then (first_place_by text items) (first_declarer (definitions_of items) name)

-- where the words of an item start
abbrev pub word_spots : List ℕ → Item → List Spot
word_spots text i = map (λ t. spot_at text t.start) (words_in i.tokens)

-- the table is that of these items
pub record IsTableOf (text : List ℕ) (items : List Item) (table : DeclaredNames) : Type 0 where
  pub words : map (λ v. v.items) table.words.items ≡ map (word_spots text) items
  pub names : (name : List ℕ) → first_in table.names name ≡ first_declarer (definitions_of items) name

-- ---- what the program has of that

-- where a word starts, and a name is declared first, by the table of a text
abbrev pub word_spot : DeclaredNames → (item word : ℕ) → Option Spot
word_spot table item word = option_and_then (λ words. slice_get words word)
    (slice_get (map (λ v. v.items) table.words.items) item)

abbrev pub spot_in : DeclaredNames → Declarer → Option Spot
spot_in table d = word_spot table d.item d.word

abbrev pub place_by : DeclaredNames → Declarer → Option FirstPlace
place_by table d = option_map (declared_at d) (spot_in table d)

abbrev pub place_in : DeclaredNames → List ℕ → Option FirstPlace
place_in table name = option_and_then (place_by table) (first_in table.names name)
