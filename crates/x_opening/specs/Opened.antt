-- What opening a file comes to, and what a program tells of it.
use Rattle.std.specs.Prelude.{◌≡◌, ◌⊎◌, ℕ, Bool, true, false, ◌<◌, ◌≤◌, List, []}
use Rattle.std.specs.Prelude.{◌++◌, length, codes}
use Rattle.std.specs.Prelude.{Result, IfOk, OnOk, IfErr, IsErrOf}
use Rattle.std.specs.List.{flat_map}
use Rattle.x_streams.specs.Streams.{Stream}
use Rattle.x_compile.specs.declared.fault.Fault.{Fault}
use Rattle.x_session.specs.Session.{Compiles, Document}
use Rattle.x_compile.specs.Compile.{Item, faults_of}
use Rattle.x_compile.specs.Faults.{fault_text}
use Rattle.x_streams.specs.declared.outcome.EngineFault.{EngineFault}
use Rattle.x_streams.specs.declared.outcome.EngineFault.TheVariants.{Read, Write, NoMemory}
use Rattle.x_session.specs.FaultLines.{fault_place}
use Rattle.x_text.specs.declared.text.fault.TextFault.{TextFault}
use Rattle.x_text.specs.declared.text.fault.TextFault.TheVariants as faults
use Rattle.x_text.specs.Limits.{most_text}
use Rattle.x_explain.specs.Explained.{AreExplained}
use Rattle.x_session.specs.Foreign.{ForeignName}
use Rattle.x_explain.specs.KnownFiles.{KnownPlaces, no_places}
use Rattle.x_prelude.specs.Foreign.{AreForeign}
use Rattle.x_args.specs.BaseNames.{base_of}
use Rattle.x_args.specs.Telling.{Complains, IsTold, told_of}
use Rattle.x_opening.specs.declared.opening.FaultStyle.{FaultStyle}
use Rattle.x_opening.specs.declared.opening.Opening.{Opening}
use Rattle.x_opening.specs.declared.known.KnownSources.{KnownSources}
use Rattle.x_prelude.specs.declared.definition.FromC.{FromC}
use Rattle.x_opening.specs.Opening.{CompilesBy, HavePlaces, IsAfter, IsBefore, IsCrowded}
use Rattle.x_opening.specs.declared.opening.FaultStyle.TheVariants.{Plain, Explained, Coloured}
use Rattle.x_args.specs.declared.status.Status.{Status}
use Rattle.x_args.specs.declared.status.Status.TheVariants.{Faulty, Failed}

-- `FILE:LINE:COL: CODE NAME`
abbrev pub told_fault : List ℕ → Fault → List ℕ
told_fault file f = file ++ codes ":" ++ fault_place f ++ codes ": " ++ fault_text f.code ++ codes "\n"

-- the faults of a file's text, one a line
abbrev pub told_faults : List ℕ → List Fault → List ℕ
told_faults file fs = flat_map (told_fault file) fs

-- why a file's text is not opened, as a program tells it
abbrev pub unopened_told : List ℕ → List ℕ → TextFault → List ℕ
unopened_told program file faults.TooLarge = program ++ codes ": " ++ file ++ codes ": 2 TooLarge\n"
unopened_told program file fault = told_of program (codes "out of memory")

-- the text is one that can be compiled, and has no fault
pub record IsFaultless (how : Opening) (text : List ℕ) : Type 0 where
  pub fits : length text ≤ most_text
  pub clean : CompilesBy how text (λ items. faults_of text items ≡ [])

-- Why a program opens no session of a file's text that it can read, as it tells it: the text is too large, or
-- what stands before it is, or memory ran out. A text with faults has them told.
pub data NotOpened (how : Opening) (program file text : List ℕ) (before after : Stream) : Type 0 where
  TooLarge : most_text < length text
      → IsTold before after (program ++ codes ": " ++ file ++ codes ": 2 TooLarge\n")
      → NotOpened how program file text before after
  Crowded : IsCrowded how text
      → IsTold before after (program ++ codes ": " ++ file ++ codes ": 2 TooLarge\n")
      → NotOpened how program file text before after
  NoRoom : length text ≤ most_text → IsTold before after (told_of program (codes "out of memory"))
      → NotOpened how program file text before after

-- The faults of a file's text are told with their lines, and with the names that it takes from C.
abbrev pub ExplainsFaults : Opening → (coloured : Bool) → (file text : List ℕ) → List Item
    → (before after : Stream) → Type 0
ExplainsFaults how coloured file text items before after =
    (places : KnownPlaces) × HavePlaces no_places how.known.now.files.items places
    × (foreign : List ForeignName) × AreForeign how.known.now.text.items how.from_c text items foreign
    × (said : List ℕ)
    × AreExplained places foreign (record { coloured = coloured; file = file; text = text }) items said
    × IsTold before after said

-- How the faults of a file's text are told: one a line, or explained.
abbrev pub TellsBy : FaultStyle → Opening → (file text : List ℕ) → List Item → (before after : Stream)
    → Type 0
TellsBy Plain how file text items before after =
    IsTold before after (told_faults file (faults_of text items))
TellsBy Explained how file text items before after = ExplainsFaults how false file text items before after
TellsBy Coloured how file text items before after = ExplainsFaults how true file text items before after

abbrev pub TellsFaults : Opening → (file text : List ℕ) → List Item → (before after : Stream) → Type 0
TellsFaults how file text items before after = TellsBy how.style how file text items before after

-- What opening the text of a file for a run of a program comes to: a session of a text without faults, or the
-- status of a run that does not go on, which was told why.
pub record IsOpened (how : Opening) (program file bytes : List ℕ) (before after : Stream)
    (result : Result Document Status) : Type 0 where
  pub base : IfOk result (λ s. s.base ≡ base_of file)
  pub known : IfOk result (λ s. IsBefore how bytes s.known)
  pub text : IfOk result (λ s. s.text ≡ bytes)
  pub clean : OnOk result (CompilesBy how bytes (λ items. faults_of bytes items ≡ []))
  pub faultless : IfOk result (λ s. Compiles s.known s.text (λ items. faults_of s.text items ≡ []))
  pub faulty : IsErrOf result Faulty → CompilesBy how bytes (λ items. (0 < length (faults_of bytes items))
      × TellsFaults how file bytes items before after)
  pub too_large : most_text < length bytes → IsErrOf result Failed
  pub failed : IsErrOf result Failed → NotOpened how program file bytes before after
  pub others : IfErr result (λ status. (status ≡ Faulty) ⊎ (status ≡ Failed))

-- the same where the text stands behind these files
abbrev pub IsOpenedAfter : FaultStyle → KnownSources → FromC → (program file bytes : List ℕ)
    → (before after : Stream) → Result Document Status → Type 0
IsOpenedAfter style known from program file bytes before after result = (how : Opening)
    × IsAfter how style known from
    × IsOpened how program file bytes before after result

-- what a program tells where a run over a file stops
abbrev pub stop_told : List ℕ → List ℕ → EngineFault → List ℕ
stop_told program file (Read written) = program ++ codes ": " ++ file ++ codes ": cannot be read\n"
stop_told program file (Write written) = told_of program (codes "output cannot be written")
stop_told program file (NoMemory written) = told_of program (codes "out of memory")

-- The same, but of an output whose reader has enough: of that nothing is told.
abbrev pub TellsStop : (is_closed : Bool) → (program file : List ℕ) → EngineFault → (before after : Stream)
    → Type 0
TellsStop is_closed program file (Write written) before after =
    Complains is_closed before after (stop_told program file (Write written))
TellsStop is_closed program file fault before after = IsTold before after (stop_told program file fault)

-- Why the files that are to be known before a text are not, as it is told: one cannot be read; or it is not
-- opened over those before it, or has faults; or memory ran out.
pub data NotKnown (style : FaultStyle) (program : List ℕ) (before after : Stream) : Status → Type 0 where
  no_room : IsTold before after (told_of program (codes "out of memory"))
      → NotKnown style program before after Failed
  unread : (file : List ℕ)
      → IsTold before after (program ++ codes ": " ++ file ++ codes ": cannot be read\n")
      → NotKnown style program before after Failed
  unopened : (how : Opening) (file text : List ℕ) → NotOpened how program file text before after
      → NotKnown style program before after Failed
  faulty : (how : Opening) (file text : List ℕ) → how.style ≡ style
      → CompilesBy how text (λ items. (0 < length (faults_of text items))
      × TellsFaults how file text items before after)
      → NotKnown style program before after Faulty
