-- What a line that asks to explain the faults is answered, over a text and its items.
use Rattle.std.specs.Prelude.{◌≡◌, ℕ, false, List, ◌++◌, length, codes}
use Rattle.x_compile.specs.Compile.{Item, faults_of}
use Rattle.x_explain.specs.Explained.{AreExplained, Telling}
use Rattle.x_session.specs.Foreign.{ForeignName}
use Rattle.x_prelude.specs.Foreign.{AreForeign}
use Rattle.x_script.specs.Answers.{Answer, answered, counted_line}
use Rattle.x_script.specs.Situations.{How}

-- the faults are told as those of a file's text, without colours
abbrev pub telling_of : (file text : List ℕ) → Telling
telling_of file text = record { coloured = false; file = file; text = text }

-- how many faults there are, and what explains them
abbrev pub explained_answer : ℕ → List ℕ → List ℕ
explained_answer count said = counted_line (codes "explained") count ++ said

-- The faults of the text are answered so, with the names that it takes from C. The command is not refused.
pub record IsExplainAnswer (how : How) (text : List ℕ) (items : List Item) (a : Answer) : Type 0 where
  pub said : List ℕ
  pub foreign : List ForeignName
  pub are_foreign : AreForeign how.files how.from text items foreign
  pub are_explained : AreExplained how.places foreign (telling_of how.file text) items said
  pub answer_is : a ≡ answered text (explained_answer (length (faults_of text items)) said)
