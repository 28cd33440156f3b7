-- Pieces that stand in one text, one behind another.
use Rattle.std.specs.Prelude.{ℕ, ◌-◌, ◌≤◌, List, take, drop}
use Rattle.x_pieces.specs.Pieces.{Pieces}
use Rattle.x_pieces.specs.declared.pieces.Ends.{Ends}

-- the ends stand in order within so many bytes
pub record InOrder (ends : Ends) (size : ℕ) : Type 0 where
  pub header : ends.forward ≤ ends.header
  pub routines : ends.header ≤ ends.routines
  pub stubs : ends.routines ≤ ends.stubs
  pub table : ends.stubs ≤ size

-- what stands between the ends
abbrev pub parted : List ℕ → Ends → Pieces
parted text ends = record {
  forward = take ends.forward text;
  header = take (ends.header - ends.forward) (drop ends.forward text);
  routines = take (ends.routines - ends.header) (drop ends.header text);
  stubs = take (ends.stubs - ends.routines) (drop ends.routines text);
  table = drop ends.stubs text;
}
