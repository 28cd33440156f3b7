-- The pieces that are generated of a definition, and the items of a text.
use Rattle.std.specs.Prelude.{ℕ, List, [], Option, None, slice_get}
use Rattle.std.specs.Option.{option_map_or}
use Rattle.x_pieces.specs.declared.which.Which.{Which}
use Rattle.x_pieces.specs.declared.which.Which.TheVariants as texts

-- its forward lines, which stand before all pieces of the header, and its piece of each text
pub record Pieces : Type 0 where
  pub forward : List ℕ
  pub header : List ℕ
  pub routines : List ℕ
  pub stubs : List ℕ
  pub table : List ℕ

-- the piece of a text
abbrev pub piece : Which → Pieces → List ℕ
piece texts.Header p = p.header
piece texts.Routines p = p.routines
piece texts.Stubs p = p.stubs
piece texts.Table p = p.table

-- An item: its lines that pass through, without their `%`, each with a line feed; and its pieces, where it
-- has a definition and no fault.
pub record Part : Type 0 where
  pub lines : List ℕ
  pub pieces : Option Pieces

-- the lines of the item at a place
abbrev pub lines_at : List Part → ℕ → List ℕ
lines_at parts index = option_map_or (λ p. p.lines) (slice_get parts index) []

-- the pieces of the item at a place
abbrev pub pieces_at : List Part → ℕ → Option Pieces
pieces_at parts index = option_map_or (λ p. p.pieces) (slice_get parts index) None
