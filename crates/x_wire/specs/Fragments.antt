-- Streams as fragments (RFC 5531, section 11), and the records that these make.
use Rattle.std.specs.Prelude.{ℕ, ◌+◌, ◌-◌, ◌<◌, ◌≤◌, Bool, true, false, List, [], ◌∷◌, ◌++◌, length}
use Rattle.std.specs.Prelude.{Option, Some, None, if◌then◌else◌}
use Rattle.std.specs.Int.{to_be_bytes, w32}
use Rattle.x_wire.specs.Limits.{most_record}
use Rattle.x_wire.specs.Limits.{header_length, last_bit}
use Rattle.x_wire.specs.Records.{InHeader, InData, TooLong, Left, data_of}

-- The header of a fragment: four bytes, the highest first. The top bit says that the fragment is the last of
-- its record, the other 31 bits are the length of its data.
abbrev pub header : Bool → ℕ → List ℕ
header last size = to_be_bytes w32 ((if last then last_bit else 0) + size)

-- A stream from this place on, in front of which this record is open, if one is: the records that become
-- whole in it, and what it leaves.
pub data Frames : (at : ℕ) → Option (List ℕ) → (stream : List ℕ) → (records : List (List ℕ)) → Left →
    Type 0 where
  -- it ends in front of a header or inside one
  ends_in_header : {at : ℕ} {joined : Option (List ℕ)} {bytes : List ℕ} → length bytes < header_length →
      Frames at joined bytes [] (record { taken = at + length bytes; phase = InHeader bytes joined })
  -- it begins with a header whose length takes the record over the limit: whatever follows, it ends behind
  -- the header
  ends_too_long : {at : ℕ} {joined : Option (List ℕ)} (last : Bool) (size : ℕ) (rest : List ℕ) →
      size < last_bit → most_record < length (data_of joined) + size →
      Frames at joined (header last size ++ rest) []
      (record { taken = at + header_length; phase = TooLong at })
  -- it begins with a header, and ends inside the data of that fragment or in front of it
  ends_in_data : {at : ℕ} {joined : Option (List ℕ)} (last : Bool) (size : ℕ) (bytes : List ℕ) →
      length bytes < size → length (data_of joined) + size ≤ most_record →
      Frames at joined (header last size ++ bytes) []
      (record {
        taken = at + header_length + length bytes;
        phase = InData (size - length bytes) last (data_of joined ++ bytes);
      })
  -- it begins with a fragment that isn't the last of its record: the record stays open
  fragment : {at : ℕ} {joined : Option (List ℕ)} (bytes stream : List ℕ)
      {records : List (List ℕ)} {left : Left} →
      length (data_of joined) + length bytes ≤ most_record →
      Frames (at + header_length + length bytes) (Some (data_of joined ++ bytes)) stream records left →
      Frames at joined (header false (length bytes) ++ (bytes ++ stream)) records left
  -- it begins with the last fragment of a record: the record is whole
  last_fragment : {at : ℕ} {joined : Option (List ℕ)} (bytes stream : List ℕ)
      {records : List (List ℕ)} {left : Left} →
      length (data_of joined) + length bytes ≤ most_record →
      Frames (at + header_length + length bytes) None stream records left →
      Frames at joined (header true (length bytes) ++ (bytes ++ stream))
      ((data_of joined ++ bytes) ∷ records) left
