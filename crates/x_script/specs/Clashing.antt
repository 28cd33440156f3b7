-- What a line that asks for the names that clash in C is answered, over a text and its items.
use Rattle.std.specs.Prelude.{◌≡◌, ◌<◌, ℕ, List, [], ◌++◌, length, codes}
use Rattle.std.specs.List.{flat_map}
use Rattle.x_compile.specs.Compile.{Item, faults_of}
use Rattle.x_warnings.specs.WarningLines.{warning_line}
use Rattle.x_warnings.specs.Warnings.{AreWarnings, Warning}
use Rattle.x_script.specs.Answers.{Answer, answered, counted_line, refused_by}
use Rattle.x_script.specs.Situations.{How}
use Rattle.x_script.specs.declared.script.refusal.LineRefusal.TheVariants.{Faulty}

-- how many there are, and a line for each
abbrev pub clashes_answer : (file : List ℕ) → List Warning → List ℕ
clashes_answer file ws = counted_line (codes "clashes") (length ws) ++ flat_map (warning_line file) ws

-- a text with a fault has none yet
pub data IsClashAnswer (how : How) (text : List ℕ) (items : List Item) (a : Answer) : Type 0 where
  faulty : 0 < length (faults_of text items) → a ≡ refused_by text Faulty
      → IsClashAnswer how text items a
  faultless : (ws : List Warning) → faults_of text items ≡ [] → AreWarnings text items ws
      → a ≡ answered text (clashes_answer how.file ws) → IsClashAnswer how text items a
