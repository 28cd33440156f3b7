-- What private functions do to the text of a script.
use Rattle.std.specs.Prelude.{◌≡◌, ℕ, Bool, true, false, List, Result, Ok, Err, OnOk}
use Rattle.x_streams.specs.Streams.{Stream}
use Rattle.x_streams.specs.Writing.{Inked}
use Rattle.x_lists.specs.declared.no_memory.NoMemory.{NoMemory}
use Rattle.x_prelude.specs.Before.{IsBefore}
use Rattle.x_prelude.specs.Followed.{IsOver}
use Rattle.x_prelude.specs.declared.followed.FollowedText.{FollowedText}
use Rattle.x_script.specs.Answers.{Answer}
use Rattle.x_script.specs.Script.{IsGiven}
use Rattle.x_script.specs.Situations.{How, Situation, situation}
use Rattle.x_script.specs.declared.script.ScriptFile.{ScriptFile}
use Rattle.x_script.specs.declared.script.command.Command.{Command}
use Rattle.x_script.specs.declared.script.command.Command.TheVariants as commands

-- an answer of which this holds was given, or nothing was done
abbrev pub GivesBy : (How → List ℕ → Answer → Type 0) → (old new : Situation) → Result Bool NoMemory
    → Inked → Stream → Inked → Stream → Type 0
GivesBy IsFor old new (Ok refused) p now q now' =
    (a : Answer) × IsFor old.how old.text a × IsGiven a old new refused p now q now'
GivesBy IsFor old new (Err e) p now q now' = new ≡ old

-- the situation stays, and before the text stands what stands before it as it is
pub record Renews {E : Type 0} (old new : FollowedText) (result : Result (Unit {0}) E) : Type 0 where
  pub over : IsOver new
  pub same : (file : ScriptFile) → situation file new ≡ situation file old
  pub before : OnOk result (IsBefore new.files.items new.from_c new.session.text new.session.known)

-- the command asks something about the text
abbrev pub is_question : Command → Bool
is_question (commands.Edit start end insert) = false
is_question commands.Bad = false
is_question command = true
