-- What is printed of a stream, of a message and of a value.
use Rattle.std.specs.Prelude.{◌≡◌, ℕ, ◌+◌, ◌≤◌, ◌⊎◌, List, [], ◌∷◌, ◌++◌, length, Option, Some, None, Result}
use Rattle.std.specs.Prelude.{Ok}
use Rattle.std.specs.Prelude.{Err, codes}
use Rattle.std.specs.Fmt.{decimal}
use Rattle.std.specs.Io.KnownBytes.{Appends, Consumes}
use Rattle.x_streams.specs.Streams.{Stream}
use Rattle.x_streams.specs.Writing.{StopsWithin, counted}
use Rattle.x_schema.specs.Schema.{Schema}
use Rattle.x_streams.specs.Engines.{is_refused}
use Rattle.x_streams.specs.declared.outcome.Outcome.{Outcome}
use Rattle.x_streams.specs.declared.outcome.EngineFault.{EngineFault}
use Rattle.x_streams.specs.declared.outcome.EngineFault.TheVariants.{Read, Write, NoMemory}
use Rattle.x_wire.specs.Calls.{Calls}
use Rattle.x_wire.specs.Limits.{most_block}
use Rattle.x_wire.specs.MessageTexts.{Told, plain, refused, then_told, IsMessageText}
use Rattle.x_wire.specs.RecordFaults.{end_fault, fault_at, record_text}
use Rattle.x_wire.specs.Records.{left, records}
use Rattle.x_wire.specs.declared.records.RecordFault.{RecordFault}

-- The texts of messages one behind another, the first of this number; and the calls behind them.
abbrev pub AreTold : Schema → (number : ℕ) → Calls → List (List ℕ) → Told → Calls → Type 0
AreTold s number calls [] t calls' = (t ≡ plain []) × (calls' ≡ calls)
AreTold s number calls (bytes ∷ rest) t calls' =
    (first : Told) × (between : Calls) × (others : Told) × IsMessageText s number calls bytes first between
    × AreTold s (number + 1) between rest others calls' × (t ≡ then_told first others)

-- the texts of these messages, the first of a stream
abbrev pub IsTextOf : Schema → List (List ℕ) → Told → Type 0
IsTextOf s messages t = (calls : Calls) × AreTold s 1 [] messages t calls

-- ---- streams

-- `fault CODE WORD at N`, where the stream is refused
abbrev pub record_line : RecordFault → List ℕ
record_line fault = codes "fault " ++ record_text fault.code ++ codes " at " ++ decimal fault.at ++ codes "\n"

abbrev pub end_told : Option RecordFault → Told
end_told None = plain []
end_told (Some fault) = refused (record_line fault)

-- the texts of a stream's records, and that of its fault where it has one
abbrev pub IsStreamText : Schema → List ℕ → Told → Type 0
IsStreamText s stream t =
    (all : Told) × IsTextOf s (records stream) all × (t ≡ then_told all (end_told (end_fault (left stream))))

-- the texts of some of the stream's records, from the first on
pub record IsFrontText (s : Schema) (stream : List ℕ) (t : Told) : Type 0 where
  pub told : List (List ℕ)
  pub rest : List (List ℕ)
  pub parts : records stream ≡ told ++ rest
  pub are : IsTextOf s told t

-- the texts of some of the stream's records, from the first on: of all that are whole before the last block
pub record IsTextToBlock (s : Schema) (read block : List ℕ) (t : Told) : Type 0 where
  pub front : IsFrontText s (read ++ block) t
  pub all_before : length (records read) ≤ length front.told

-- the sink has the whole text
pub record HasText (t : Told) (before after : Stream) (written : ℕ) : Type 0 where
  pub taken : Appends before.bytes after.bytes t.text
  pub written_is : written ≡ counted (length t.text)

-- What is written of a stream, of which the tap has `later` then. A fault of the tap comes behind the texts
-- of all records that are whole in what was read, in which no header takes its record over the limit; want of
-- memory behind those of some records of what was read, from the first on, and of all that are whole before
-- the last block that was read; and a fault of the sink within a text or at its end.
abbrev pub DumpsStream : Schema → (stream : List ℕ) (later : Option (List ℕ)) (before after : Stream)
    → Result Outcome EngineFault → Type 0
DumpsStream s stream later before after (Ok outcome) =
    (t : Told) × IsStreamText s stream t × Appends before.bytes after.bytes t.text
    × (is_refused outcome ≡ t.refused)
DumpsStream s stream later before after (Err (Read written)) =
    (read : List ℕ) × Consumes (Some stream) later read × (fault_at (left read).phase ≡ None)
    × ((t : Told) × IsTextOf s (records read) t × HasText t before after written)
DumpsStream s stream later before after (Err (NoMemory written)) =
    (read : List ℕ) × (block : List ℕ) × Consumes (Some stream) later (read ++ block)
    × (length block ≤ most_block)
    × ((t : Told) × IsTextToBlock s read block t × HasText t before after written)
DumpsStream s stream later before after (Err (Write written)) =
    (t : Told) × (IsFrontText s stream t ⊎ IsStreamText s stream t) × StopsWithin before after t.text written

-- ---- one message

-- the text of a message alone, or after a fault of the sink its first bytes; without memory nothing was
-- written
abbrev pub DumpsMessage : Schema → List ℕ → (before after : Stream) → Result Outcome EngineFault → Type 0
DumpsMessage s bytes before after (Ok outcome) =
    (t : Told) × IsTextOf s (bytes ∷ []) t × Appends before.bytes after.bytes t.text
    × (is_refused outcome ≡ t.refused)
DumpsMessage s bytes before after (Err (Write written)) =
    (t : Told) × IsTextOf s (bytes ∷ []) t × StopsWithin before after t.text written
DumpsMessage s bytes before after (Err (NoMemory written)) = (written ≡ 0) × (after ≡ before)
DumpsMessage s bytes before after (Err (Read written)) = ⊥
