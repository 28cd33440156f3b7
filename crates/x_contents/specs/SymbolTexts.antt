-- Symbols as they are written (RFC 8259, LSP 3.17).
use Rattle.std.specs.Prelude.{ℕ, List, [], ◌∷◌, ◌++◌, codes, decimal, slice_get, Option, None, Some}
use Rattle.std.specs.Str.Lossy.{utf8_lossy}
use Rattle.serde_json.specs.Data.{string}
use Rattle.serde_json.specs.Written.{compact_text}
use Rattle.x_frames.specs.ListTexts.{ended}
use Rattle.x_lex.specs.Places.{Lexeme}
use Rattle.x_trees.specs.Tree.{Definition}
use Rattle.x_positions.specs.declared.range.Range.{Range}
use Rattle.x_lookups.specs.Parts.{parts_of}
use Rattle.x_lookups.specs.declared.parts.Part.{Part}
use Rattle.x_lookups.specs.declared.parts.PartKind.{PartKind}
use Rattle.x_contents.specs.Symbols.{symbol_kind, with_definition}
use Rattle.x_contents.specs.declared.symbols.Shown.{Shown}

-- a list in which nothing stands yet
abbrev pub no_text : List ℕ
no_text = 91 ∷ []

-- a symbol of this name, with this list of the symbols in it, brackets and all
abbrev pub symbol_text : PartKind → (name range selection children : List ℕ) → List ℕ
symbol_text kind name range selection children = codes "{\"children\":" ++ children
    ++ codes ",\"kind\":" ++ decimal (symbol_kind kind) ++ codes ",\"name\":" ++ compact_text (string name)
    ++ codes ",\"range\":" ++ range ++ codes ",\"selectionRange\":" ++ selection ++ codes "}"

-- a range from the start of one to the end of another
abbrev pub range_text : Range → Range → List ℕ
range_text first last =
    codes "{\"end\":{\"character\":" ++ decimal last.end.character
    ++ codes ",\"line\":" ++ decimal last.end.line
    ++ codes "},\"start\":{\"character\":" ++ decimal first.start.character
    ++ codes ",\"line\":" ++ decimal first.start.line ++ codes "}}"

-- a list of symbols, brackets and all, or that of none
abbrev pub list_text : Option (List ℕ) → List ℕ
list_text None = codes "[]"
list_text (Some list) = list

-- the symbol that is shown so, with these symbols in it and a comma behind it
abbrev pub shown_text : Shown → (children : List ℕ) → List ℕ
shown_text shown children = symbol_text shown.kind (utf8_lossy shown.name.now)
    (range_text shown.range shown.range) (range_text shown.selection shown.selection) children ++ codes ","

-- the text of a part's symbol, with a comma behind it
abbrev pub text_by : PartKind → (token : Option Lexeme) → (first name last : Option Range)
    → (children : List ℕ) → Option (List ℕ)
text_by kind (Some token) (Some first) (Some name) (Some last) children = Some (symbol_text kind
    (utf8_lossy token.text) (range_text first last) (range_text name name) children ++ codes ",")
text_by kind (Some token) (Some first) (Some name) None children = None
text_by kind (Some token) (Some first) None last children = None
text_by kind (Some token) None name last children = None
text_by kind None first name last children = None

abbrev pub text_of : List Lexeme → List Range → Part → (children : List ℕ) → Option (List ℕ)
text_of tokens ranges part children = text_by part.kind (slice_get tokens part.name)
    (slice_get ranges part.first) (slice_get ranges part.name) (slice_get ranges part.last) (ended children)

-- the text of earlier items, and then that of an item with these tokens, if it has a definition
abbrev pub with_text : (text : List ℕ) → List Lexeme → List Range → Option Definition → List ℕ
with_text text tokens ranges None = text
with_text text tokens ranges (Some d) =
    with_definition no_text (text_of tokens ranges) text (parts_of tokens)
