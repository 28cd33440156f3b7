-- Record marking (RFC 5531, section 11), byte by byte: the records of a stream, and what a stream leaves
-- open. Fragments.antt says the same by whole fragments, and a law that the two agree.
use Rattle.std.specs.Prelude.{ℕ, ◌+◌, ◌-◌, ◌%◌, ◌^◌, min, Bool, List, [], ◌∷◌, ◌++◌, length}
use Rattle.std.specs.Prelude.{Option, Some, None, nat_lt, nat_le, if◌then◌else◌}
use Rattle.std.specs.Int.{from_be_bytes, w32}
use Rattle.x_wire.specs.Limits.{most_record}
use Rattle.x_wire.specs.Limits.{header_length, last_bit}

-- Where a stream stands.
pub data Phase : Type 0 where
  -- Inside a header, of which these bytes came, fewer than four. A record is open from its first whole header
  -- on: its joined data, where one is open.
  InHeader : List ℕ → Option (List ℕ) → Phase
  -- Inside a fragment: how many bytes of its data lack, whether it is the last of its record, and the joined
  -- data.
  InData : ℕ → Bool → List ℕ → Phase
  -- Behind the header at this place, whose length takes its record over the limit. Nothing is open, and no
  -- byte counts any more.
  TooLong : ℕ → Phase

-- What a stream leaves: how many of its bytes count, and where it stands.
pub record Left : Type 0 where
  pub taken : ℕ
  pub phase : Phase

-- the count after so many bytes more; it stays at the greatest `u64`
abbrev pub count_after : ℕ → ℕ → ℕ
count_after taken more = min (taken + more) (2 ^ 64 - 1)

-- the joined data of the open record: none yet, where none is open
abbrev pub data_of : Option (List ℕ) → List ℕ
data_of None = []
data_of (Some joined) = joined

-- A move of a stream: what it then leaves, and the records that became whole by it.
pub record Moved : Type 0 where
  pub left : Left
  pub told : List (List ℕ)

-- a move by which no record became whole
abbrev pub quiet : ℕ → Phase → Moved
quiet taken phase = record { left = record { taken = taken; phase = phase }; told = [] }

-- A fragment that lacks so many bytes, of a record with this data so far. Once nothing lacks, the next header
-- follows; and the last fragment makes its record whole.
abbrev pub in_fragment : (taken lacks : ℕ) → Bool → List ℕ → Moved
in_fragment taken lacks last joined =
    if nat_lt 0 lacks then quiet taken (InData lacks last joined)
    else (if last then record (quiet taken (InHeader [] None)) { told = joined ∷ [] }
    else quiet taken (InHeader [] (Some joined)))

-- A whole header, by its number: the top bit says that its fragment is the last of its record, the other 31
-- bits are the fragment's length.
abbrev pub behind_header : (taken number : ℕ) → List ℕ → Moved
behind_header taken number joined =
    if nat_lt most_record (length joined + number % last_bit)
    then quiet taken (TooLong (taken - header_length))
    else in_fragment taken (number % last_bit) (nat_le last_bit number) joined

-- these bytes of a header came
abbrev pub in_header : (taken : ℕ) → List ℕ → Option (List ℕ) → Moved
in_header taken bytes joined =
    if nat_lt (length bytes) header_length then quiet taken (InHeader bytes joined)
    else behind_header taken (from_be_bytes w32 bytes) (data_of joined)

-- one byte more, behind so many
abbrev pub moved : Phase → (taken byte : ℕ) → Moved
moved (InHeader bytes joined) taken byte = in_header (count_after taken 1) (bytes ++ byte ∷ []) joined
moved (InData lacks last joined) taken byte =
    in_fragment (count_after taken 1) (lacks - 1) last (joined ++ byte ∷ [])
moved (TooLong at) taken byte = quiet taken (TooLong at)

-- the move by one byte
unfoldable pub step : Left → ℕ → Moved
step left byte = moved left.phase left.taken byte

-- what more bytes leave
abbrev pub after : Left → List ℕ → Left
after l [] = l
after l (b ∷ bs) = after (step l b).left bs

-- the records that became whole by more bytes
abbrev pub told : Left → List ℕ → List (List ℕ)
told l [] = []
told l (b ∷ bs) = (step l b).told ++ told (step l b).left bs

-- what the empty stream leaves
abbrev pub nothing_left : Left
nothing_left = record { taken = 0; phase = InHeader [] None }

-- what a stream leaves
abbrev pub left : List ℕ → Left
left stream = after nothing_left stream

-- the records of a stream: the joined data of the fragments up to each that is the last of its record
abbrev pub records : List ℕ → List (List ℕ)
records stream = told nothing_left stream
