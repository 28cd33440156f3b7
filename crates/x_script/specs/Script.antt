-- What a script does with a text.
use Rattle.std.specs.Prelude.{◌≡◌, ◌≤◌, ℕ, Bool, true, false, ◌||◌, List, [], ◌∷◌, ◌++◌, length, Option, Some}
use Rattle.std.specs.Prelude.{None, Result, Ok, Err}
use Rattle.x_streams.specs.Streams.{Stream}
use Rattle.x_streams.specs.Writing.{Inked, Adds, HasFront, counted}
use Rattle.x_script.specs.Answers.{Answer}
use Rattle.x_script.specs.LineAnswers.{IsLineAnswer}
use Rattle.x_script.specs.Situations.{How, Situation, Leaves}
use Rattle.x_lines.specs.declared.lines.LineFault.{LineFault}
use Rattle.x_lines.specs.declared.lines.State.TheVariants.{Ended}
use Rattle.x_streams.specs.declared.outcome.Outcome.{Outcome}
use Rattle.x_streams.specs.Engines.{is_refused}
use Rattle.x_streams.specs.declared.outcome.EngineFault.{EngineFault}
use Rattle.x_streams.specs.declared.outcome.EngineFault.TheVariants.{Read, Write, NoMemory}
use Rattle.x_lines.specs.Lines.{Reading, IsUnread, StopsBehind, script_lines, whole_lines}
use Rattle.std.specs.Io.KnownBytes.{Appends, Consumes}

-- one answer behind another
abbrev pub then_answer : Answer → Answer → Answer
then_answer first rest =
    record { told = first.told ++ rest.told; refused = first.refused || rest.refused; text = rest.text }

-- this holds of what a line is answered
abbrev pub LineAnswers : How → (text line : List ℕ) → (Answer → Type 0) → Type 0
LineAnswers how text line P = (a : Answer) × IsLineAnswer how text line a × P a

-- the lines, one after another, get these answers in all, and leave this text
abbrev pub AreAnswered : How → (text : List ℕ) → List (List ℕ) → Answer → Type 0
AreAnswered how text [] all = all ≡ record { told = []; refused = false; text = text }
AreAnswered how text (line ∷ lines) all =
    LineAnswers how text line
    (λ first. (rest : Answer) × AreAnswered how first.text lines rest × (all ≡ then_answer first rest))

-- an answer was added to what is written, and it leaves this text
pub record AddsAnswer (a : Answer) (text : List ℕ) (refused : Bool) (p : Inked) (now : Stream) (q : Inked)
    (now' : Stream) : Type 0 where
  pub added : Adds p now q now' a.told
  pub refused_is : refused ≡ a.refused
  pub text_is : text ≡ a.text

-- over any text, an answer of which this holds was added, and it leaves the text
abbrev pub TellsOver : (List ℕ → Answer → Type 0) → Bool → Inked → Stream → Inked → Stream → Type 0
TellsOver P refused p now q now' =
    (text : List ℕ) → (a : Answer) × P text a × AddsAnswer a text refused p now q now'

-- an answer was given: it was added to what is written, and leaves its text
pub record IsGiven (a : Answer) (old new : Situation) (refused : Bool) (p : Inked) (now : Stream) (q : Inked)
    (now' : Stream) : Type 0 where
  pub added : Adds p now q now' a.told
  pub refused_is : refused ≡ a.refused
  pub session_is : Leaves old new a.text

-- Of the script, which the tap told at first, the reader has given these lines; what is left stands unread in
-- the reader and in the tap. Except at the end, they and those of what is unread are also the lines that line
-- feeds end, whatever comes behind what was read.
pub record HasGiven (script : List ℕ) (reader : Reading) (left : Option (List ℕ))
    (given : List (List ℕ)) : Type 0 where
  pub read : List ℕ
  pub unread : List ℕ
  pub later : List ℕ
  pub left_is : left ≡ Some later
  pub script_is : script ≡ read ++ later
  pub unread_is : IsUnread reader left unread
  pub lines_are : script_lines script ≡ given ++ script_lines (unread ++ later)
  pub whole_are : (reader.state ≡ Ended → ⊥) → (next : List ℕ)
      → whole_lines (read ++ next) ≡ given ++ whole_lines (unread ++ next)

-- nothing was done
pub record IsAsBefore (old new : Situation) (p : Inked) (now : Stream) (q : Inked)
    (now' : Stream) : Type 0 where
  pub session_same : new ≡ old
  pub pen_same : q ≡ p
  pub sink_same : now' ≡ now

-- A script goes on behind the lines that were given: the next one is answered, or there is none, or nothing
-- is done.
abbrev pub GoesOn : (old new : Situation) (script : List ℕ) (reader : Reading)
    (left : Option (List ℕ)) (given : List (List ℕ)) → Result (Option Bool) LineFault
    → (p : Inked) (now : Stream) (q : Inked) (now' : Stream) → Type 0
GoesOn old new script reader left given (Ok (Some refused)) p now q now' =
    (line : List ℕ) × HasGiven script reader left (given ++ line ∷ [])
    × LineAnswers old.how old.text line (λ a. IsGiven a old new refused p now q now')
GoesOn old new script reader left given (Ok None) p now q now' =
    (script_lines script ≡ given) × IsAsBefore old new p now q now'
GoesOn old new script reader left given (Err fault) p now q now' =
    StopsBehind fault script left given × IsAsBefore old new p now q now'

-- this holds of some of the script's lines, from the first on
abbrev pub IsFrontOf : List ℕ → (List (List ℕ) → Type 0) → Type 0
IsFrontOf script P =
    (lines : List (List ℕ)) × (rest : List (List ℕ)) × (script_lines script ≡ lines ++ rest) × P lines

-- a run: the session before it and after it, and the sink
pub record ScriptRun : Type 0 where
  pub old : Situation
  pub new : Situation
  pub before : Stream
  pub after : Stream

abbrev pub script_run : (old new : Situation) (before after : Stream) → ScriptRun
script_run old new before after = record { old = old; new = new; before = before; after = after }

-- These lines are answered: the sink has their answers behind what it held, and the session has the text that
-- they leave.
pub record HasRun (lines : List (List ℕ)) (c : ScriptRun) (refused : Bool) : Type 0 where
  pub all : Answer
  pub answered : AreAnswered c.old.how c.old.text lines all
  pub written : Appends c.before.bytes c.after.bytes all.told
  pub refused_is : refused ≡ all.refused
  pub session_is : Leaves c.old c.new all.text

-- These lines are answered, and so many bytes were written.
pub record HasStopped (lines : List (List ℕ)) (c : ScriptRun) (written : ℕ) : Type 0 where
  pub refused : Bool
  pub run : HasRun lines c refused
  pub written_is : written ≡ counted (length run.all.told)

-- The earlier lines have these answers in all, and the sink has them whole; it failed within the last line's
-- answer, and the session has the text that this leaves.
pub record FailsWithin (all last : Answer) (c : ScriptRun) (written : ℕ) : Type 0 where
  pub front : HasFront c.before c.after (all.told ++ last.told) written
  pub whole : counted (length all.told) ≤ written
  pub session_is : Leaves c.old c.new last.text

-- These lines are carried out, and the sink failed within the answer of the last of them.
pub record HasFailed (lines : List (List ℕ)) (c : ScriptRun) (written : ℕ) : Type 0 where
  pub earlier : List (List ℕ)
  pub last : List ℕ
  pub lines_are : lines ≡ earlier ++ last ∷ []
  pub all : Answer
  pub answered : AreAnswered c.old.how c.old.text earlier all
  pub within : LineAnswers c.old.how all.text last (λ a. FailsWithin all a c written)

-- What a run of a script does, of which the tap has `left` then. A fault of the reader comes behind the
-- answers of all lines that a line feed ends in what was read, want of memory behind those of some lines,
-- from the first on, and a fault of the sink within an answer.
abbrev pub Runs : (script : List ℕ) (left : Option (List ℕ)) → ScriptRun → Result Outcome EngineFault → Type 0
Runs script left c (Ok outcome) = HasRun (script_lines script) c (is_refused outcome)
Runs script left c (Err (Read written)) =
    (read : List ℕ) × Consumes (Some script) left read × HasStopped (whole_lines read) c written
Runs script left c (Err (NoMemory written)) = IsFrontOf script (λ lines. HasStopped lines c written)
Runs script left c (Err (Write written)) =
    IsFrontOf script (λ lines. HasFailed lines c written) × (c.after.failed ≡ true)

-- a step that finds no line leaves the sink alone, and one that finds a line adds to it
abbrev pub AddsIfFound : {S : Type 0} → Result (Option Bool) LineFault → (sink sink' : S) → Type 0 → Type 0
AddsIfFound (Ok (Some refused)) sink sink' Added = Added
AddsIfFound (Ok None) sink sink' Added = sink' ≡ sink
AddsIfFound (Err fault) sink sink' Added = sink' ≡ sink
