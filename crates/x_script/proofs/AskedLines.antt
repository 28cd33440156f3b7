-- Lines that ask to show a value, to explain the faults or for names that clash, and others.
use Rattle.std.proofs.Common.{◌≡◌, ◌≤◌, ℕ, List, Bool, true, false, length, Some, None, Result, Ok, Err}
use Rattle.x_lists.specs.declared.no_memory.NoMemory.{NoMemory}
use Rattle.x_streams.specs.Streams.{Stream}
use Rattle.x_streams.specs.Writing.{Inked}
use Rattle.x_script.specs.Clashing.{IsClashAnswer}
use Rattle.x_script.specs.Commands.{clashes_asked, command_of, dump_asked, explain_asked}
use Rattle.x_script.specs.Explaining.{IsExplainAnswer}
use Rattle.x_script.specs.Giving.{GivesBy}
use Rattle.x_script.specs.LineAnswers.{IsCommandAnswer, IsDumped, IsLineAnswer, clashes, explains, shows}
use Rattle.x_script.specs.LineAnswers.{within}
use Rattle.x_script.specs.Situations.{Over, Situation}
use Rattle.x_lines.specs.declared.lines.TheConstants.{LONGEST}

module _ (old new : Situation) (line : List ℕ) where
  -- what was told of a value is the answer to the line
  pub dump_given : (name message : List ℕ) (p q : Inked) (now now' : Stream) (r : Result Bool NoMemory)
      → length line ≤ LONGEST → dump_asked line ≡ Some (name, message)
      → GivesBy (λ how here a. IsDumped how here name message a) old new r p now q now'
      → GivesBy (λ how here a. IsLineAnswer how here line a) old new r p now q now'
  dump_given name message p q now now' (Ok refused) short asked h =
      (h.0, shows name message short asked h.1, h.2)
  dump_given name message p q now now' (Err e) short asked h = h

  -- what explains the faults is the answer to the line
  pub explain_given : (p q : Inked) (now now' : Stream) (r : Result Bool NoMemory)
      → length line ≤ LONGEST → explain_asked line ≡ true
      → GivesBy (λ how here a. Over how here (λ known items. IsExplainAnswer how here items a))
      old new r p now q now'
      → GivesBy (λ how here a. IsLineAnswer how here line a) old new r p now q now'
  explain_given p q now now' (Ok refused) short asked h = (h.0, explains short asked h.1, h.2)
  explain_given p q now now' (Err e) short asked h = h

  -- which names clash is the answer to the line
  pub clashes_told : (p q : Inked) (now now' : Stream) (r : Result Bool NoMemory)
      → length line ≤ LONGEST → clashes_asked line ≡ true
      → GivesBy (λ how here a. Over how here (λ known items. IsClashAnswer how here items a))
      old new r p now q now'
      → GivesBy (λ how here a. IsLineAnswer how here line a) old new r p now q now'
  clashes_told p q now now' (Ok refused) short asked h = (h.0, clashes short asked h.1, h.2)
  clashes_told p q now now' (Err e) short asked h = h

  -- what another command is answered is the answer to the line
  pub other_given : (p q : Inked) (now now' : Stream) (r : Result Bool NoMemory)
      → length line ≤ LONGEST → dump_asked line ≡ None → explain_asked line ≡ false
      → clashes_asked line ≡ false
      → GivesBy (λ how here a. IsCommandAnswer how here (command_of line) a) old new r p now q now'
      → GivesBy (λ how here a. IsLineAnswer how here line a) old new r p now q now'
  other_given p q now now' (Ok refused) short asked other free h =
      (h.0, within short asked other free h.1, h.2)
  other_given p q now now' (Err e) short asked other free h = h
