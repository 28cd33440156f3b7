-- How the parts of a document are told (LSP 3.17, `textDocument/documentSymbol`).
use Rattle.std.specs.Prelude.{ℕ, ◌-◌, ◌==◌, List, [], ◌∷◌, ◌++◌, codes, length, map, nat_lt, slice_get, take}
use Rattle.std.specs.Prelude.{Bool, false, Option, None, Some, if◌then◌else◌}
use Rattle.std.specs.Str.Lossy.{utf8_lossy}
use Rattle.serde_json.specs.Data.{Data, array, number, string, object, member, no_members, unsigned}
use Rattle.serde_json.specs.View.{items_of}
use Rattle.x_lex.specs.Places.{Lexeme}
use Rattle.x_trees.specs.Tree.{Definition}
use Rattle.x_compile.specs.Compile.{Item}
use Rattle.x_session.specs.ItemWalks.{over_items}
use Rattle.x_positions.specs.PositionData.{range_data}
use Rattle.x_positions.specs.Positions.{position_of}
use Rattle.x_positions.specs.declared.encoding.Encoding.{Encoding}
use Rattle.x_positions.specs.declared.range.Range.{Range}
use Rattle.x_lookups.specs.Parts.{parts_of}
use Rattle.x_lookups.specs.declared.parts.Part.{Part}
use Rattle.x_lookups.specs.declared.parts.PartKind.{PartKind}
use Rattle.x_lookups.specs.declared.parts.PartKind.TheVariants.{Constant, Enum, Enumerator}
use Rattle.x_lookups.specs.declared.parts.PartKind.TheVariants.{Struct, Union, Typedef, Field}
use Rattle.x_lookups.specs.declared.parts.PartKind.TheVariants.{Program, Version, Procedure}

-- the range of a token in a text that is shown
abbrev pub token_range : Encoding → List ℕ → Lexeme → Range
token_range encoding shown token = record {
  start = position_of encoding shown token.start;
  end = position_of encoding shown token.end;
}

-- the `SymbolKind` of a part
abbrev pub symbol_kind : PartKind → ℕ
symbol_kind Constant = 14
symbol_kind Enum = 10
symbol_kind Enumerator = 22
symbol_kind Struct = 23
symbol_kind Union = 23
symbol_kind Typedef = 5
symbol_kind Field = 8
symbol_kind Program = 2
symbol_kind Version = 3
symbol_kind Procedure = 6

-- a `DocumentSymbol`: its kind, its name, its range, that of its name, and what stands in it
abbrev pub symbol_data : PartKind → List ℕ → Data → Data → Data → Data
symbol_data kind name range selection children = object
    (member (codes "children") children
    (member (codes "kind") (number (unsigned (symbol_kind kind)))
    (member (codes "name") (string name)
    (member (codes "range") range
    (member (codes "selectionRange") selection no_members)))))

-- ---- parts in parts

-- What is told of a part stands in what is told of the part around it, which comes behind it. This holds of
-- data, and of the text that is written of them: `none` is what stands in a part where there is nothing.

-- what is told at one depth, behind one another, whose parent is yet to come
pub record Siblings (A : Type 0) : Type 0 where
  pub depth : ℕ
  pub told : List A

-- what stands in a part at a depth, by the last siblings so far; and what is left of these
abbrev pub children_by : {A : Type 0} → (none : List A) → Option (Siblings A) → (depth : ℕ) → List A
children_by none None depth = none
children_by none (Some last) depth = if nat_lt depth last.depth then last.told else none

abbrev pub left_by : {A : Type 0} → List (Siblings A) → Option (Siblings A) → (depth : ℕ) → List (Siblings A)
left_by levels None depth = levels
left_by levels (Some last) depth = if nat_lt depth last.depth then take (length levels - 1) levels else levels

-- the last siblings stand below a depth
abbrev pub is_below : {A : Type 0} → Option (Siblings A) → (depth : ℕ) → Bool
is_below None depth = false
is_below (Some last) depth = nat_lt depth last.depth

abbrev pub last_of : {A : Type 0} → List (Siblings A) → Option (Siblings A)
last_of levels = slice_get levels (length levels - 1)

abbrev pub children_in : {A : Type 0} → (none : List A) → List (Siblings A) → (depth : ℕ) → List A
children_in none levels depth = children_by none (last_of levels) depth

abbrev pub left_in : {A : Type 0} → List (Siblings A) → (depth : ℕ) → List (Siblings A)
left_in levels depth = left_by levels (last_of levels) depth

-- what is told at a depth, behind what stands there
abbrev pub with_sibling : {A : Type 0} → (none : List A) → List (Siblings A) → (depth : ℕ) → List A
    → List (Siblings A)
with_sibling none levels depth more = left_in levels (depth - 1)
    ++ record { depth = depth; told = children_in none levels (depth - 1) ++ more } ∷ []

-- what is told of whole definitions so far, and what is told whose parent is yet to come
pub record Outline (A : Type 0) : Type 0 where
  pub levels : List (Siblings A)
  pub told : List A

abbrev pub with_told : {A : Type 0} → (none : List A) → Outline A → (depth : ℕ) → Option (List A) → Outline A
with_told none o depth None = o
with_told none o depth (Some more) =
    if depth == 0 then record o { told = o.told ++ more }
    else record o { levels = with_sibling none o.levels depth more }

-- a part, of which this is told by what stands in it
abbrev pub with_part : {A : Type 0} → (none : List A) → (tell : Part → List A → Option (List A)) → Outline A
    → Part → Outline A
with_part none tell o part = with_told none (record o { levels = left_in o.levels part.depth }) part.depth
    (tell part (children_in none o.levels part.depth))

abbrev pub with_parts : {A : Type 0} → (none : List A) → (tell : Part → List A → Option (List A)) → Outline A
    → List Part → Outline A
with_parts none tell o [] = o
with_parts none tell o (p ∷ ps) = with_parts none tell (with_part none tell o p) ps

-- what is told of a definition with these parts, behind what is told of earlier ones
abbrev pub with_definition : {A : Type 0} → (none : List A) → (tell : Part → List A → Option (List A))
    → (told : List A) → List Part → List A
with_definition none tell told parts =
    (with_parts none tell (record { levels = []; told = told }) parts).told

-- ---- the symbols of a text

-- the symbol of a part by its name's token, and by the ranges of its first token, its name and its last
abbrev pub symbol_by : PartKind → (token : Option Lexeme) → (first name last : Option Range) → Data
    → Option (List Data)
symbol_by kind (Some token) (Some first) (Some name) (Some last) children = Some (symbol_data kind
    (utf8_lossy token.text) (range_data first.start last.end) (range_data name.start name.end) children ∷ [])
symbol_by kind (Some token) (Some first) (Some name) None children = None
symbol_by kind (Some token) (Some first) None last children = None
symbol_by kind (Some token) None name last children = None
symbol_by kind None first name last children = None

abbrev pub symbol_of : List Lexeme → List Range → Part → (children : List Data) → Option (List Data)
symbol_of tokens ranges part children = symbol_by part.kind (slice_get tokens part.name)
    (slice_get ranges part.first) (slice_get ranges part.name) (slice_get ranges part.last)
    (array (items_of children))

-- the symbols of earlier items, and then that of an item with these tokens, if it has a definition
abbrev pub with_item : Encoding → (shown : List ℕ) → (symbols : List Data) → List Lexeme → Option Definition
    → List Data
with_item encoding shown symbols tokens None = symbols
with_item encoding shown symbols tokens (Some d) = with_definition []
    (symbol_of tokens (map (token_range encoding shown) tokens)) symbols (parts_of tokens)

-- the symbols of a text with these items, as it is shown
abbrev pub symbols_in : Encoding → (shown : List ℕ) → List Item → List Data
symbols_in encoding shown items = over_items (with_item encoding shown) [] items
