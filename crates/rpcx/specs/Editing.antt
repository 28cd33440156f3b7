-- What a run of `rpcedit` does with the script that it is given.
use Rattle.std.specs.Prelude.{◌≡◌, ◌≤◌, ℕ, Bool, List, length, Option, MatchOption, Err, codes, if◌then◌else◌}
use Rattle.x_streams.specs.Streams.{Stream}
use Rattle.x_streams.specs.Engines.{NamesCause}
use Rattle.x_text.specs.Limits.{most_text}
use Rattle.x_streams.specs.declared.outcome.EngineFault.{EngineFault}
use Rattle.x_explain.specs.KnownFiles.{KnownPlaces, no_places}
use Rattle.x_prelude.specs.declared.followed.FollowedText.{FollowedText}
use Rattle.x_lines.specs.Lines.{script_lines}
use Rattle.x_script.specs.Script.{HasRun, Runs, script_run}
use Rattle.x_script.specs.Situations.{Situation}
use Rattle.x_args.specs.declared.status.Status.{Status}
use Rattle.x_args.specs.declared.status.Status.TheVariants.{Done, Faulty}
use Rattle.rpcx.specs.Course.{Course, IsIdle}
use Rattle.x_opening.specs.declared.opening.Opening.{Opening}
use Rattle.x_args.specs.BaseNames.{base_of}
use Rattle.x_opening.specs.Opened.{NotOpened, TellsStop}
use Rattle.x_opening.specs.Opening.{HavePlaces}

-- the status of a run that carried out each line, whether or not one was refused
abbrev pub status_of : Bool → Status
status_of refused = if refused then Faulty else Done

-- what a script finds: the text of a file, behind known files that declare names at these places
abbrev pub found_by : Opening → (file : List ℕ) → KnownPlaces → (text : List ℕ) → Situation
found_by how file places text = record {
  how = record {
    file = file;
    base = base_of file;
    files = how.known.now.text.items;
    from = how.from_c;
    places = places;
    is_plain = how.known.now.is_plain;
  };
  text = text;
}

-- the same by the text that was opened
abbrev pub found_over : Opening → (file : List ℕ) → KnownPlaces → FollowedText → Situation
found_over how file places t = record {
  how = record {
    file = file;
    base = t.session.base;
    files = t.files.items;
    from = t.from_c;
    places = places;
    is_plain = how.known.now.is_plain;
  };
  text = t.session.text;
}

-- this holds of what a script finds
abbrev pub Finds : Opening → (file text : List ℕ) → (Situation → Type 0) → Type 0
Finds how file text P = (places : KnownPlaces) × HavePlaces no_places how.known.now.files.items places
    × P (found_by how file places text)

-- A run answers the script: where its status tells of no fault, the sink has the answers of all lines, and
-- the status says whether one was refused.
abbrev pub Answers : (script : List ℕ) (old : Situation) (before after : Stream) (status : Status) → Type 0
Answers script old before after status = (refused : Bool) → status ≡ status_of refused
    → (new : Situation) × HasRun (script_lines script) (script_run old new before after) refused

-- the same over the text of a file
abbrev pub AnswersBy : Opening → (script file text : List ℕ) → (before after : Stream) → Status → Type 0
AnswersBy how script file text before after status = (refused : Bool) → status ≡ status_of refused
    → Finds how file text
    (λ old. (new : Situation) × HasRun (script_lines script) (script_run old new before after) refused)

-- a run that this fault ends: the sink has what the run of the script says of it
abbrev pub EndsEarly : (script : List ℕ) (left : Option (List ℕ)) (old : Situation) (before after : Stream)
    → EngineFault → Type 0
EndsEarly script left old before after fault =
    (new : Situation) × Runs script left (script_run old new before after) (Err fault)

-- This fault ends the run of a script: it names what has failed, and where the script is known the sink has
-- what its run says of the fault.
pub record EndsBy (fault : EngineFault) (old : Situation) (c : Course) : Type 0 where
  pub cause : NamesCause (Err fault) c.file.failed c.file'.failed c.out.failed c.out'.failed
  pub run : MatchOption c.file.bytes (Unit {0})
      (λ script. EndsEarly script c.file'.bytes old c.out c.out' fault)

-- a fault ends the run of a script, and that fault is told, unless the output's reader has enough
abbrev pub IsStopped : Situation → Course → (is_closed : Bool) → (before after : Stream) → Type 0
IsStopped old c is_closed before after = (fault : EngineFault) × EndsBy fault old c
    × TellsStop is_closed (codes "rpcedit") (codes "-") fault before after

-- Why `rpcedit` does not carry a script out to its end on a file's text that it can read, as it tells it: the
-- text is not opened, and then nothing is read and nothing is written; or a fault ends the run.
pub data NotRun (how : Opening) (file text : List ℕ) (c : Course) (is_closed : Bool)
    (before after : Stream) : Type 0 where
  unopened : NotOpened how (codes "rpcedit") file text before after → IsIdle c
      → NotRun how file text c is_closed before after
  stopped : length text ≤ most_text
      → Finds how file text (λ old. IsStopped old c is_closed before after)
      → NotRun how file text c is_closed before after
