-- What a dumper told of a stream that comes in blocks.
use Rattle.std.specs.Prelude.{◌≡◌, ℕ, ◌<◌, ◌≤◌, Bool, List, [], ◌++◌, length, take, Option, Some, None}
use Rattle.std.specs.Io.KnownBytes.{Consumes}
use Rattle.x_streams.specs.Streams.{Stream}
use Rattle.x_streams.specs.Writing.{Inked, Adds}
use Rattle.x_schema.specs.Schema.{Schema}
use Rattle.x_streams.specs.Engines.{is_refused}
use Rattle.x_wire.specs.Calls.{Calls}
use Rattle.x_wire.specs.Framers.{left_by}
use Rattle.x_wire.specs.LastCalls.{last_call}
use Rattle.x_wire.specs.MessageTexts.{Told, then_told}
use Rattle.x_wire.specs.RecordFaults.{fault_at}
use Rattle.x_wire.specs.Records.{left, records}
use Rattle.x_wire.specs.Limits.{most_block}
use Rattle.x_wire.specs.StreamTexts.{AreTold, IsStreamText, IsTextToBlock}
use Rattle.x_wire.specs.Tellers.{Knows}
use Rattle.x_wire.specs.declared.telling.dumper.Dumper.{Dumper}
use Rattle.x_wire.specs.declared.telling.stream.Turn.{Turn}
use Rattle.x_wire.specs.declared.telling.stream.Turn.TheVariants.{GoesOn, Ended, NoMemory}
use Rattle.x_wire.specs.declared.telling.teller.Teller.{Teller}

-- a teller told these records of a stream, the first ones, by these texts
pub record HasTold (s : Schema) (told : List (List ℕ)) (t : Told) (teller : Teller)
    (refused : Bool) : Type 0 where
  pub calls : Calls
  pub are : AreTold s 1 [] told t calls
  pub knows : Knows s (last_call teller.calls) calls
  pub count_is : teller.calls.count ≡ length told
  pub refused_is : refused ≡ t.refused

-- these records more were told
pub record TellsMore (s : Schema) (told more : List (List ℕ)) (t : Told) (teller : Teller) (refused : Bool)
    (p : Inked) (now : Stream) (q : Inked) (now' : Stream) : Type 0 where
  pub text : Told
  pub has_told : HasTold s (told ++ more) (then_told t text) teller refused
  pub added : Adds p now q now' text.text

-- these bytes were read of a stream, and the records that are whole in them were told by these texts
pub record IsAt (s : Schema) (read : List ℕ) (t : Told) (dumper : Dumper) : Type 0 where
  pub left_is : left read ≡ left_by dumper.framer
  pub has_told : HasTold s (records read) t dumper.teller dumper.refused

-- these bytes more were read, and what becomes whole by them was told
pub record Tells (s : Schema) (read : List ℕ) (t : Told) (taken : List ℕ) (new : Dumper)
    (p : Inked) (now : Stream) (q : Inked) (now' : Stream) : Type 0 where
  pub more : Told
  pub is_at : IsAt s (read ++ taken) (then_told t more) new
  pub added : Adds p now q now' more.text

-- of these bytes more some records were told, from the first on
pub record TellsFront (s : Schema) (read : List ℕ) (t : Told) (block : List ℕ)
    (p : Inked) (now : Stream) (q : Inked) (now' : Stream) : Type 0 where
  pub more : Told
  pub is_front : IsTextToBlock s read block (then_told t more)
  pub added : Adds p now q now' more.text

-- how many bytes of a piece were taken: at least one where there is one
abbrev pub IsUsed : List ℕ → Option ℕ → Type 0
IsUsed piece None = Unit {0}
IsUsed piece (Some used) = (used ≤ length piece) × (0 < length piece → 0 < used)

-- the front of a piece that was taken: all of it behind a header that takes its record over the limit, since
-- nothing counts any more
abbrev pub front_taken : List ℕ → Option ℕ → List ℕ
front_taken piece None = piece
front_taken piece (Some used) = take used piece

-- nothing counts any more
abbrev pub IsOver : Dumper → Type 0
IsOver dumper = (at : ℕ) × (fault_at (left_by dumper.framer).phase ≡ Some at)

-- no header takes its record over the limit
abbrev pub IsUnder : Dumper → Type 0
IsUnder dumper = fault_at (left_by dumper.framer).phase ≡ None

-- nothing counts any more exactly where no number is answered
abbrev pub IsOverAt : Option ℕ → Dumper → Type 0
IsOverAt None dumper = IsOver dumper
IsOverAt (Some used) dumper = IsUnder dumper

-- Where a turn leaves a stream of which these bytes were read, a block of them now, and the tap has `left`:
-- the texts of what was read; or how the stream ends; or memory ran out, behind the texts of some records.
abbrev pub IsTurn : Schema → (read block : List ℕ) → (left : Option (List ℕ)) → Turn → Told → Dumper → Type 0
IsTurn s read block left GoesOn t new = IsAt s (read ++ block) t new × IsUnder new
IsTurn s read block left (Ended outcome) t new =
    ((stream : List ℕ) → Consumes (Some stream) left (read ++ block) → IsStreamText s stream t)
    × (is_refused outcome ≡ t.refused)
IsTurn s read block left NoMemory t new = IsTextToBlock s read block t

-- a block was read and told
pub record TellsTurn (s : Schema) (read : List ℕ) (t : Told) (before left : Option (List ℕ)) (turn : Turn)
    (new : Dumper)
    (p : Inked) (now : Stream) (q : Inked) (now' : Stream) : Type 0 where
  pub taken : List ℕ
  pub come : Consumes before left taken
  pub few : length taken ≤ most_block
  pub more : Told
  pub is_turn : IsTurn s read taken left turn (then_told t more) new
  pub added : Adds p now q now' more.text
