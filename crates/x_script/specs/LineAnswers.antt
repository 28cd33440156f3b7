-- What a line of a script is answered over a text, in one way (`one_answer` of `x_laws`).
use Rattle.std.specs.Prelude.{◌≡◌, ◌<◌, ◌≤◌, ℕ, true, false, List, [], length, Some, None}
use Rattle.x_session.specs.declared.declared.Spot.{Spot}
use Rattle.x_prelude.specs.Leading.{IsForeignUse}
use Rattle.x_script.specs.Answers.{Answer, answer, refused, refused_by}
use Rattle.x_script.specs.Clashing.{IsClashAnswer}
use Rattle.x_script.specs.Commands.{clashes_asked, command_of, dump_asked, explain_asked}
use Rattle.x_compile.specs.Compile.{Item, faults_of}
use Rattle.x_compile.specs.Known.{KnownText}
use Rattle.x_script.specs.Explaining.{IsExplainAnswer}
use Rattle.x_script.specs.Refusals.{unknown_line}
use Rattle.x_script.specs.Showing.{IsDumpAnswer}
use Rattle.x_script.specs.Situations.{How, Over}
use Rattle.x_script.specs.declared.script.command.Command.{Command}
use Rattle.x_script.specs.declared.script.refusal.LineRefusal.TheVariants.{Faulty, LongLine}
use Rattle.x_lines.specs.Limits.{most_line}

-- A command is answered so over a text: by its items, over what stands before it; or, as an edit, whatever
-- its items are.
pub data IsCommandAnswer (how : How) (text : List ℕ) (command : Command) (a : Answer) : Type 0 where
  alone : ((items : List Item) → a ≡ answer how.base text items command)
      → IsCommandAnswer how text command a
  asks : Over how text (λ known items. a ≡ answer how.base text items command)
      → IsCommandAnswer how text command a

-- A line that asks to show a value is answered so by the items of a text that this is known before: nothing
-- is read by a definition that leads to a name of C which is in no table.
pub data IsShownBy (how : How) (known : KnownText) (text : List ℕ) (items : List Item)
    (name message : List ℕ) (a : Answer) : Type 0 where
  faulty : 0 < length (faults_of text items) → a ≡ refused_by text Faulty
      → IsShownBy how known text items name message a
  leads : (spot : Spot) → faults_of text items ≡ []
      → IsForeignUse how.files how.from text items name (Some spot) → a ≡ refused text (unknown_line spot)
      → IsShownBy how known text items name message a
  stands : faults_of text items ≡ [] → IsForeignUse how.files how.from text items name None
      → IsDumpAnswer known text items name message a
      → IsShownBy how known text items name message a

-- It is refused where known files use such names.
pub data IsDumped (how : How) (text name message : List ℕ) (a : Answer) : Type 0 where
  hidden : how.is_plain ≡ false → a ≡ refused_by text Faulty
      → IsDumped how text name message a
  read : how.is_plain ≡ true → Over how text (λ known items. IsShownBy how known text items name message a)
      → IsDumped how text name message a

-- A line is answered so: it may ask to show a value, to explain the faults or for names that clash, or be any
-- other command; or it is too long.
pub data IsLineAnswer (how : How) (text line : List ℕ) (a : Answer) : Type 0 where
  within : length line ≤ most_line → dump_asked line ≡ None → explain_asked line ≡ false
      → clashes_asked line ≡ false → IsCommandAnswer how text (command_of line) a
      → IsLineAnswer how text line a
  shows : (name message : List ℕ) → length line ≤ most_line → dump_asked line ≡ Some (name, message)
      → IsDumped how text name message a
      → IsLineAnswer how text line a
  explains : length line ≤ most_line → explain_asked line ≡ true
      → Over how text (λ known items. IsExplainAnswer how text items a)
      → IsLineAnswer how text line a
  clashes : length line ≤ most_line → clashes_asked line ≡ true
      → Over how text (λ known items. IsClashAnswer how text items a)
      → IsLineAnswer how text line a
  too_long : most_line < length line → a ≡ refused_by text LongLine
      → IsLineAnswer how text line a
