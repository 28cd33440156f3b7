-- What the fields of a framer stand for.
use Rattle.std.specs.Prelude.{◌≡◌, ℕ, ◌<◌, ◌≤◌, Bool, true, false, List, [], ◌∷◌, ◌++◌, take, length}
use Rattle.std.specs.Prelude.{Some, None, if◌then◌else◌}
use Rattle.x_wire.specs.Limits.{header_length}
use Rattle.x_wire.specs.declared.records.framer.Phase.{Phase}
use Rattle.x_wire.specs.declared.records.framer.Phase.TheVariants.{InHeader, InData, TooLong}
use Rattle.x_wire.specs.declared.records.framer.Framer.{Framer}
use Rattle.x_wire.specs.Records.{Left, Moved, after, told}
use Rattle.x_wire.specs.RecordFaults.{fault_at}
use Rattle.x_wire.specs.Records as model
use Rattle.x_wire.specs.declared.records.RecordCode.{RecordCode}
use Rattle.x_wire.specs.declared.records.RecordCode.TheVariants.{NoMemory, RecordTooLong, Truncated}

-- where a stream stands, with this joined data of the open record
abbrev pub phase_by : Phase → List ℕ → model.Phase
phase_by (InHeader bytes count is_open) joined =
    model.InHeader (take count bytes) (if is_open then Some joined else None)
phase_by (InData lacks last) joined = model.InData lacks last joined
phase_by (TooLong at) joined = model.TooLong at

-- what is left
abbrev pub left_by : Framer → Left
left_by framer = record { taken = framer.taken; phase = phase_by framer.phase framer.joined.items }

-- a header lacks a byte at least, and so does an open fragment
abbrev pub IsOpen : Phase → Type 0
IsOpen (InHeader bytes count is_open) = (count < header_length) × (length bytes ≡ header_length)
IsOpen (InData lacks last) = 0 < lacks
IsOpen (TooLong at) = Unit {0}

-- no data stays of a record that is whole
abbrev pub IsClear : Phase → List ℕ → Type 0
IsClear (InHeader bytes count true) joined = Unit {0}
IsClear (InHeader bytes count false) joined = joined ≡ []
IsClear (InData lacks last) joined = Unit {0}
IsClear (TooLong at) joined = Unit {0}

-- a framer that can take bytes
pub record IsReady (framer : Framer) : Type 0 where
  pub is_open : IsOpen framer.phase
  pub clear : IsClear framer.phase framer.joined.items

-- the record that is whole, if one is
abbrev pub whole_in : Framer → Bool → List (List ℕ)
whole_in framer true = framer.joined.items ∷ []
whole_in framer false = []

-- A framer made this move, by which a record is whole or not. It can go on where none is.
pub record MadeMove (move : Moved) (new : Framer) (whole : Bool) : Type 0 where
  pub left_is : left_by new ≡ move.left
  pub told_is : move.told ≡ whole_in new whole
  pub is_open : IsOpen new.phase
  pub clear : whole ≡ false → IsClear new.phase new.joined.items
  pub sound : whole ≡ true → fault_at (left_by new).phase ≡ None

-- A framer took these bytes, of which no front but all of them makes a record whole.
pub record TookBytes (old : Framer) (bytes : List ℕ) (new : Framer) (whole : Bool) : Type 0 where
  pub left_is : left_by new ≡ after (left_by old) bytes
  pub told_is : told (left_by old) bytes ≡ whole_in new whole
  pub first : (k : ℕ) → k < length bytes → told (left_by old) (take k bytes) ≡ []
  pub is_open : IsOpen new.phase
  pub clear : whole ≡ false → IsClear new.phase new.joined.items
  pub sound : whole ≡ true → fault_at (left_by new).phase ≡ None

-- data was added behind the old
abbrev pub HasGrown : List ℕ → List ℕ → Type 0
HasGrown old new = (more : List ℕ) × (new ≡ old ++ more)

-- The front of a piece was taken up to the end of the first record that it completes, else all of the piece.
pub record FedBytes (old : Framer) (piece : List ℕ) (used : ℕ) (new : Framer) (whole : Bool) : Type 0 where
  pub within : used ≤ length piece
  pub took : TookBytes old (take used piece) new whole
  pub all : whole ≡ false → used ≡ length piece
  pub sound : fault_at (left_by new).phase ≡ None

-- A front of the piece was taken, which completes no record, to the end of a header that takes its record
-- over the limit.
pub record StoppedAt (old : Framer) (piece : List ℕ) (at : ℕ) (new : Framer) : Type 0 where
  pub used : ℕ
  pub within : used ≤ length piece
  pub left_is : left_by new ≡ after (left_by old) (take used piece)
  pub told_is : told (left_by old) (take used piece) ≡ []
  pub fault_is : fault_at (left_by new).phase ≡ Some at

-- what a refusal leaves
abbrev pub RefusedBytes : RecordCode → (old : Framer) → (piece : List ℕ) → (at : ℕ) → (new : Framer) → Type 0
RefusedBytes NoMemory old piece at new = (at ≡ 0) × (left_by new ≡ left_by old)
RefusedBytes RecordTooLong old piece at new = StoppedAt old piece at new
RefusedBytes Truncated old piece at new = ⊥
