-- What a call takes of a piece of a stream, and what it answers.
use Rattle.std.specs.Prelude.{◌≡◌, ℕ, ◌<◌, ◌≤◌, List, [], ◌∷◌, ◌++◌, length, take}
use Rattle.std.specs.Prelude.{Option, Some, None, Result, Err, MatchOption, MatchResult, option_copied}
use Rattle.x_wire.specs.declared.records.RecordCode.{RecordCode}
use Rattle.x_wire.specs.declared.records.RecordCode.TheVariants.{NoMemory, RecordTooLong, Truncated}
use Rattle.x_wire.specs.declared.records.RecordFault.{RecordFault}
use Rattle.x_wire.specs.declared.records.Fed.{Fed}
use Rattle.x_wire.specs.Records.{Left, left, records}
use Rattle.x_wire.specs.RecordFaults.{fault_at}

-- These bytes lead each stream that leaves the old to one that leaves the new, with these records behind its
-- own.
abbrev pub Leads : (old : Left) → (bytes : List ℕ) → (new : Left) → (told : List (List ℕ)) → Type 0
Leads old bytes new told = (stream : List ℕ) → left stream ≡ old →
    (left (stream ++ bytes) ≡ new) × (records (stream ++ bytes) ≡ records stream ++ told)

-- no record becomes whole before the last of these bytes
abbrev pub IsFirst : (old : Left) → (bytes : List ℕ) → Type 0
IsFirst old bytes = (k : ℕ) → k < length bytes → (stream : List ℕ) → left stream ≡ old →
    records (stream ++ take k bytes) ≡ records stream

-- the record, if there is one, as a list
abbrev pub in_list : Option (List ℕ) → List (List ℕ)
in_list None = []
in_list (Some whole) = whole ∷ []

-- So many bytes of a piece were taken: up to the end of the first record that they make whole, which is
-- answered; all, where they make none whole. No header among them takes its record over the limit.
pub record Feeds (old : Left) (piece : List ℕ) (used : ℕ) (whole : Option (List ℕ)) (new : Left) :
    Type 0 where
  pub within : used ≤ length piece
  pub leads : Leads old (take used piece) new (in_list whole)
  pub first : IsFirst old (take used piece)
  pub all : whole ≡ None → used ≡ length piece
  pub sound : fault_at new.phase ≡ None

-- Before a record ends in the piece, a header takes its record over the limit: the bytes up to the header's
-- end were taken. Or one did so before, and none was taken.
pub record Overflows (old : Left) (piece : List ℕ) (at : ℕ) (new : Left) : Type 0 where
  pub used : ℕ
  pub within : used ≤ length piece
  pub leads : Leads old (take used piece) new []
  pub fault : fault_at new.phase ≡ Some at

-- a piece was refused, by a header or for want of memory; then nothing was taken
abbrev pub Refuses : RecordCode → (old : Left) → (piece : List ℕ) → (at : ℕ) → (new : Left) → Type 0
Refuses NoMemory old piece at new = (at ≡ 0) × (new ≡ old)
Refuses RecordTooLong old piece at new = Overflows old piece at new
Refuses Truncated old piece at new = ⊥

-- what a call leaves of a piece
abbrev pub HasFed : (old : Left) → (piece : List ℕ) → Result Fed RecordFault → (new : Left) → Type 0
HasFed old piece result new = MatchResult result
    (λ fed. Feeds old piece fed.used (option_copied fed.whole) new)
    (λ fault. Refuses fault.code old piece fault.at new)

-- behind a header that took its record over the limit each call answers that fault
abbrev pub StaysRefused : (old : Left) → Result Fed RecordFault → Type 0
StaysRefused old result = MatchOption (fault_at old.phase) (Unit {0})
    (λ at. result ≡ Err (record { at = at; code = RecordTooLong }))

-- The bytes taken so far are this stream: these are its records, and this is what it leaves.
pub record IsStreamSoFar (stream : List ℕ) (given : List (List ℕ)) (kept : Left) : Type 0 where
  pub left_is : left stream ≡ kept
  pub records_are : records stream ≡ given
