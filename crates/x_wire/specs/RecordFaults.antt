-- The faults of a stream of records, and what is printed of them.
use Rattle.std.specs.Prelude.{ℕ, List, [], ◌∷◌, codes, Option, Some, None}
use Rattle.x_wire.specs.declared.records.RecordCode.{RecordCode}
use Rattle.x_wire.specs.declared.records.RecordCode.TheVariants.{NoMemory, RecordTooLong, Truncated}
use Rattle.x_wire.specs.declared.records.RecordFault.{RecordFault}
use Rattle.x_wire.specs.Records.{Phase, InHeader, InData, TooLong, Left}

-- the number and the name of the reason
abbrev pub record_text : RecordCode → List ℕ
record_text NoMemory = codes "58 NoMemory"
record_text RecordTooLong = codes "60 RecordTooLong"
record_text Truncated = codes "61 Truncated"

-- the place of the header whose length takes its record over the limit, behind one
abbrev pub fault_at : Phase → Option ℕ
fault_at (InHeader bytes joined) = None
fault_at (InData lacks last joined) = None
fault_at (TooLong at) = Some at

-- the fault of a stream that ends here, after so many bytes: none only where neither a header nor a record is
-- open
abbrev pub end_at : Phase → ℕ → Option RecordFault
end_at (InHeader [] None) taken = None
end_at (InHeader [] (Some joined)) taken = Some (record { at = taken; code = Truncated })
end_at (InHeader (b ∷ bs) joined) taken = Some (record { at = taken; code = Truncated })
end_at (InData lacks last joined) taken = Some (record { at = taken; code = Truncated })
end_at (TooLong at) taken = Some (record { at = at; code = RecordTooLong })

-- the fault of a stream that ends with this left
abbrev pub end_fault : Left → Option RecordFault
end_fault left = end_at left.phase left.taken
