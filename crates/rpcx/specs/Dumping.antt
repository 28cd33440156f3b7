-- What a run of `rpcdump` does with the bytes of its file.
use Rattle.std.specs.Prelude.{◌≡◌, ◌≢◌, ◌⊎◌, ◌<◌, ◌≤◌, ℕ, Bool, true, false, List, [], ◌++◌, length, Option}
use Rattle.std.specs.Prelude.{Some, None, MatchOption, Result, Ok, Err, codes, option_map, unwrap_or}
use Rattle.std.specs.Io.KnownBytes.{Consumes, IsAtEnd}
use Rattle.x_streams.specs.Streams.{Stream}
use Rattle.x_text.specs.Limits.{most_text}
use Rattle.x_schema.specs.Schema.{Schema, id_named}
use Rattle.x_schema.specs.Schemas.{IsSchemaOf}
use Rattle.x_schema.specs.declared.schema.TypeId.{TypeId}
use Rattle.x_session.specs.Session.{Compiles}
use Rattle.x_session.specs.Typed.{all_definitions}
use Rattle.x_compile.specs.Compile.{Item, faults_of}
use Rattle.x_compile.specs.Known.{KnownText}
use Rattle.x_streams.specs.Engines.{NamesCause}
use Rattle.x_value.specs.ValueTexts.{WritesValue}
use Rattle.x_streams.specs.declared.outcome.Outcome.{Outcome}
use Rattle.x_streams.specs.declared.outcome.Outcome.TheVariants.{Clean, Refused}
use Rattle.x_streams.specs.declared.outcome.EngineFault.{EngineFault}
use Rattle.x_wire.specs.StreamTexts.{DumpsMessage, DumpsStream}
use Rattle.x_wire.specs.declared.nfs2.TheConstants.{NFS2_X}
use Rattle.rpcx.specs.Course.{Course, IsIdle}
use Rattle.x_opening.specs.declared.opening.Opening.{Opening}
use Rattle.x_opening.specs.Opening.{CompilesBy, IsBefore}
use Rattle.x_opening.specs.Opened.{IsFaultless, NotOpened, TellsFaults, TellsStop}
use Rattle.x_args.specs.Telling.{Complains, IsTold}
use Rattle.rpcx.specs.declared.rpcdump.halt.Halt.{Halt}
use Rattle.rpcx.specs.declared.rpcdump.halt.Halt.TheVariants.{NoType, Unread, TooLarge, NoRoom, Ended}
use Rattle.rpcx.specs.declared.rpcdump.halt.Halt.TheVariants.{Unwritten}
use Rattle.x_args.specs.declared.dumping_args.DumpArgs.{DumpArgs}
use Rattle.x_args.specs.declared.dumping_args.Mode.{Mode}
use Rattle.x_args.specs.declared.dumping_args.Mode.TheVariants as modes
use Rattle.x_args.specs.declared.status.Status.{Status}
use Rattle.x_args.specs.declared.status.Status.TheVariants.{Done, Faulty, Failed}

-- ---- the schema

-- the text of the schema: that of NFS version 2 where none is given
abbrev pub schema_text : Option (List ℕ) → List ℕ
schema_text given = unwrap_or given NFS2_X.now

-- the name by which its faults are told
abbrev pub schema_name : DumpArgs → List ℕ
schema_name args = unwrap_or (option_map (λ s. s.now) args.schema) (codes "nfs2.x")

-- the name of the type that is asked for
abbrev pub type_asked : DumpArgs → List ℕ
type_asked args = unwrap_or (option_map (λ s. s.now) args.type_name) []

-- the text is one that can be compiled, and has faults, of which this holds by its items
abbrev pub HasFaults : Opening → List ℕ → (List Item → Type 0) → Type 0
HasFaults how text P =
    (length text ≤ most_text) × CompilesBy how text (λ items. (0 < length (faults_of text items)) × P items)

-- the text has no fault, and these are the types of what is known before it and its own
abbrev pub HasTypes : Opening → List ℕ → Schema → Type 0
HasTypes how text s =
    (length text ≤ most_text)
    × (known : KnownText) × IsBefore how text known × Compiles known text (λ items.
    (faults_of text items ≡ []) × IsSchemaOf (all_definitions known items) s)

-- What opening the types of a text comes to: there are such; or its faults were told, or why it is not
-- opened.
abbrev pub Opens : Opening → (file text : List ℕ) → (before after : Stream) → Result Schema Status → Type 0
Opens how file text before after (Ok s) = HasTypes how text s
Opens how file text before after (Err Faulty) =
    HasFaults how text (λ items. TellsFaults how file text items before after)
Opens how file text before after (Err Failed) = NotOpened how (codes "rpcdump") file text before after
    ⊎ IsFaultless how text × IsTold before after (codes "rpcdump: out of memory\n")
Opens how file text before after (Err Done) = ⊥

-- ---- what is shown

-- all bytes were read, which are not too many
pub record IsWholeFile (bytes : List ℕ) (left : Option (List ℕ)) : Type 0 where
  pub fits : length bytes ≤ most_text
  pub none_left : left ≡ Some []

-- the text of a value of the named type was written
abbrev pub WritesNamed : Schema → (type bytes : List ℕ) → (before after : Stream)
    → Result Outcome EngineFault → Type 0
WritesNamed s type bytes before after result =
    (id : TypeId) × (id_named s type ≡ Some id) × WritesValue s id bytes before after result

-- What is written of these bytes, of which the file has `left` then: as a stream; or whole, as one message or
-- as one value of the named type.
abbrev pub Shows : Mode → (type : List ℕ) → Schema → (bytes : List ℕ) → (left : Option (List ℕ))
    → (before after : Stream)
    → Result Outcome EngineFault → Type 0
Shows modes.Stream type s bytes left before after result = DumpsStream s bytes left before after result
Shows modes.Message type s bytes left before after result =
    IsWholeFile bytes left × DumpsMessage s bytes before after result
Shows modes.Value type s bytes left before after result =
    IsWholeFile bytes left × WritesNamed s type bytes before after result

-- the same of a file, where it tells its bytes
abbrev pub ShowsFile : Mode → (type : List ℕ) → Schema → Course → Result Outcome EngineFault → Type 0
ShowsFile mode type s c result =
    MatchOption c.file.bytes (Unit {0}) (λ bytes. Shows mode type s bytes c.file'.bytes c.out c.out' result)

-- ---- what halts it

-- some front of the bytes was read
abbrev pub HasRead : (file file' : Option (List ℕ)) → (List ℕ → Type 0) → Type 0
HasRead file file' P = (read : List ℕ) × Consumes file file' read × P read

-- why a file is not read as a whole
abbrev pub StopsAt : (file file' : Stream) → Halt → Type 0
StopsAt file file' Unread = HasRead file.bytes file'.bytes (λ read. Unit {0}) × (file'.failed ≡ true)
StopsAt file file' TooLarge = HasRead file.bytes file'.bytes (λ read. most_text < length read)
StopsAt file file' NoRoom = HasRead file.bytes file'.bytes (λ read. Unit {0})
StopsAt file file' _ = ⊥

-- a file was read to its end, which has these bytes and not too many
pub record ReadsAll (bytes : List ℕ) (file file' : Stream) : Type 0 where
  pub read : Consumes file.bytes file'.bytes bytes
  pub all : IsAtEnd file'.bytes
  pub fits : length bytes ≤ most_text
  pub working : file'.failed ≡ file.failed

-- a file is read on: some bytes came behind those that were there, or none is left
abbrev pub ReadsOn : (old new : List ℕ) → (file file' : Stream) → Result Bool Halt → Type 0
ReadsOn old new file file' (Ok true) =
    (more : List ℕ) × (new ≡ old ++ more) × (0 < length more) × Consumes file.bytes file'.bytes more
    × (file'.failed ≡ file.failed)
ReadsOn old new file file' (Ok false) =
    (new ≡ old) × Consumes file.bytes file'.bytes [] × IsAtEnd file'.bytes × (file'.failed ≡ file.failed)
ReadsOn old new file file' (Err halt) = StopsAt file file' halt

-- the reading of a file as a whole stopped, and nothing of it was shown
pub record StopsReading (mode : Mode) (c : Course) (halt : Halt) : Type 0 where
  pub whole : mode ≢ modes.Stream
  pub stops : StopsAt c.file c.file' halt
  pub unwritten : c.out' ≡ c.out

-- Why a file is not shown to its end, and what was read and written then.
abbrev pub Halts : Mode → (type : List ℕ) → Schema → Course → Halt → Type 0
Halts mode type s c NoType = (mode ≡ modes.Value) × (id_named s type ≡ None) × IsIdle c
Halts mode type s c (Ended fault) =
    ShowsFile mode type s c (Err fault)
    × NamesCause (Err fault) c.file.failed c.file'.failed c.out.failed c.out'.failed
Halts mode type s c Unwritten =
    ((outcome : Outcome) × ShowsFile mode type s c (Ok outcome)) × (c.out'.failed ≡ true)
Halts mode type s c halt = StopsReading mode c halt

-- And what is told of it: nothing where the output's reader has enough.
abbrev pub TellsHalt : (is_closed : Bool) → (type file : List ℕ) → Halt → (before after : Stream) → Type 0
TellsHalt is_closed type file NoType before after =
    IsTold before after (codes "rpcdump: no type " ++ type ++ codes "\n")
TellsHalt is_closed type file Unread before after =
    IsTold before after (codes "rpcdump: " ++ file ++ codes ": cannot be read\n")
TellsHalt is_closed type file TooLarge before after =
    IsTold before after (codes "rpcdump: " ++ file ++ codes ": 2 TooLarge\n")
TellsHalt is_closed type file NoRoom before after = IsTold before after (codes "rpcdump: out of memory\n")
TellsHalt is_closed type file (Ended fault) before after =
    TellsStop is_closed (codes "rpcdump") file fault before after
TellsHalt is_closed type file Unwritten before after =
    Complains is_closed before after (codes "rpcdump: output cannot be written\n")

-- what was written of a file, before the output was asked to pass it on
abbrev pub Goes : Mode → (type : List ℕ) → Schema → Course → Result Outcome Halt → Type 0
Goes mode type s c (Ok outcome) = ShowsFile mode type s c (Ok outcome) × (c.file'.failed ≡ c.file.failed)
Goes mode type s c (Err halt) = Halts mode type s c halt

-- A file is shown to its end, and the output works, or it is not.
abbrev pub Ends : Mode → (type : List ℕ) → Schema → Course → Result Outcome Halt → Type 0
Ends mode type s c (Ok outcome) =
    ShowsFile mode type s c (Ok outcome) × (c.file'.failed ≡ c.file.failed) × (c.out'.failed ≡ false)
Ends mode type s c (Err halt) = Halts mode type s c halt

-- ---- a run

-- by the types of this text the file was shown to its end, with this outcome
abbrev pub HasShown : Opening → Mode → (type text : List ℕ) → Course → Outcome → Type 0
HasShown how mode type text c outcome = (s : Schema) × HasTypes how text s × Ends mode type s c (Ok outcome)

-- Why a run is not carried out, as it is told: the schema's text is not opened, or memory ran out over its
-- types; or the file is not shown to its end.
pub data NotDumped (how : Opening) (args : DumpArgs) (mode : Mode) (text : List ℕ) (c : Course)
    (is_closed : Bool) (before after : Stream) : Type 0 where
  unopened : NotOpened how (codes "rpcdump") (schema_name args) text before after → IsIdle c
      → NotDumped how args mode text c is_closed before after
  untyped : IsFaultless how text → IsTold before after (codes "rpcdump: out of memory\n") → IsIdle c
      → NotDumped how args mode text c is_closed before after
  halted : (s : Schema) → HasTypes how text s → (halt : Halt) → Halts mode (type_asked args) s c halt
      → TellsHalt is_closed (type_asked args) args.file.now halt before after
      → NotDumped how args mode text c is_closed before after

-- A run that ends with this status: the file was shown to its end without a fault; or the schema's text has
-- faults, which were told, or what was shown has one; or the run was not carried out. The output's reader may
-- have enough at its end.
abbrev pub HasDumped : Opening → DumpArgs → Mode → (text : List ℕ) → Course → (is_closed : Bool)
    → (before after : Stream) → Status → Type 0
HasDumped how args mode text c is_closed before after Done =
    HasShown how mode (type_asked args) text c Clean × (after ≡ before)
HasDumped how args mode text c is_closed before after Faulty =
    HasFaults how text (λ items. TellsFaults how (schema_name args) text items before after) × IsIdle c
    ⊎ HasShown how mode (type_asked args) text c Refused × (after ≡ before)
HasDumped how args mode text c is_closed before after Failed =
    NotDumped how args mode text c is_closed before after
