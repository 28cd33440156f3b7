-- Answers that are given over a text.
use Rattle.std.specs.Prelude.{IfOk}
use Rattle.std.proofs.Common.{◌≡◌, ℕ, List, Bool, true, false, Result, Ok, Err, refl, sym, ap, subst, ◌∙◌}
use Rattle.x_lists.specs.declared.no_memory.NoMemory.{NoMemory}
use Rattle.x_streams.specs.Streams.{Stream}
use Rattle.x_streams.specs.Writing.{Inked, Adds}
use Rattle.x_compile.specs.Known.{KnownText}
use Rattle.x_session.specs.Session.{Compiles}
use Rattle.x_prelude.specs.Before.{IsBefore}
use Rattle.x_prelude.specs.declared.definition.FromC.{FromC}
use Rattle.x_script.specs.Answers.{Answer, answer, edit_answer, refused_by}
use Rattle.x_script.specs.Giving.{GivesBy}
use Rattle.x_script.specs.LineAnswers.{IsCommandAnswer, IsDumped, IsShownBy, alone, asks, hidden, read}
use Rattle.x_script.specs.Refusals.{refusal_line}
use Rattle.x_script.specs.Script.{AddsAnswer}
use Rattle.x_script.specs.Situations.{Situation}
use Rattle.x_script.specs.declared.script.command.Command.{Command}
use Rattle.x_script.specs.declared.script.command.Command.TheVariants as commands
use Rattle.x_script.specs.declared.script.refusal.LineRefusal.TheVariants as refusals

module _ (p q : Inked) (now now' : Stream) where
  -- an edit is answered as one, whatever the items of the text are
  pub edit_given : (old new : Situation) (r : Result Bool NoMemory) (command : Command) (start end : ℕ)
      (insert bytes : List ℕ) → command ≡ commands.Edit start end insert → bytes ≡ insert
      → GivesBy (λ how here a. a
      ≡ edit_answer (record { old = here; start = start; end = end; insert = bytes }))
      old new r p now q now'
      → GivesBy (λ how here a. IsCommandAnswer how here command a) old new r p now q now'
  edit_given old new (Ok refused) command start end insert bytes is same h = (
    h.0,
    alone (λ items. h.1
        ∙ (λ i. edit_answer (record { old = old.text; start = start; end = end; insert = same i }))
        ∙ sym (ap (answer old.how.base old.text items) is)),
    h.2,
  )
  edit_given old new (Err e) command start end insert bytes is same h = h

  -- what is no command is refused
  pub bad_given : (old : Situation) (command : Command) → command ≡ commands.Bad
      → Adds p now q now' (refusal_line refusals.BadLine)
      → GivesBy (λ how here a. IsCommandAnswer how here command a) old old (Ok true) p now q now'
  bad_given old command is added = (
    refused_by old.text refusals.BadLine,
    alone (λ items. sym (ap (answer old.how.base old.text items) is)),
    record { added = added; refused_is = refl; session_is = record { text_is = refl; how_is = refl } },
  )

  -- a question is answered over what stands before the text
  pub asked_given : (s : Situation) (known : KnownText) (command : Command)
      → IsBefore s.how.files s.how.from s.text known
      → Compiles known s.text (λ items. AddsAnswer (answer s.how.base s.text items command) s.text false
      p now q now')
      → GivesBy (λ how here a. IsCommandAnswer how here command a) s s (Ok false) p now q now'
  asked_given s known command before h = (
    answer s.how.base s.text h.1 command,
    asks (known, before, (h.0, h.1, h.2, refl)),
    record {
      added = h.3.added;
      refused_is = h.3.refused_is;
      session_is = record { text_is = h.3.text_is; how_is = refl };
    },
  )

  -- a value is refused where known files use names of C
  pub hidden_given : (old : Situation) (name message : List ℕ) → old.how.is_plain ≡ false
      → Adds p now q now' (refusal_line refusals.Faulty)
      → GivesBy (λ how here a. IsDumped how here name message a) old old (Ok true) p now q now'
  hidden_given old name message is added = (
    refused_by old.text refusals.Faulty,
    hidden is refl,
    record { added = added; refused_is = refl; session_is = record { text_is = refl; how_is = refl } },
  )

  -- a value is shown over what stands before the text
  pub read_given : (s : Situation) (known : KnownText) (r : Result Bool NoMemory) (name message : List ℕ)
      → s.how.is_plain ≡ true → IsBefore s.how.files s.how.from s.text known
      → IfOk r (λ refused. Compiles known s.text (λ items. (a : Answer)
      × IsShownBy s.how known s.text items name message a × AddsAnswer a s.text refused p now q now'))
      → GivesBy (λ how here a. IsDumped how here name message a) s s r p now q now'
  read_given s known (Ok refused) name message is before h = (
    h.3.0,
    read is (known, before, (h.0, h.1, h.2, h.3.1)),
    record {
      added = h.3.2.added;
      refused_is = h.3.2.refused_is;
      session_is = record { text_is = h.3.2.text_is; how_is = refl };
    },
  )
  read_given s known (Err e) name message is before h = refl

-- what stands before a text stands before it where it is found again
pub moved_before : (files others : List ℕ) (from other : FromC) (text here : List ℕ) (known : KnownText)
    → others ≡ files → other ≡ from → here ≡ text → IsBefore files from text known
    → IsBefore others other here known
moved_before files others from other text here known f c t h =
    subst (λ x. IsBefore x other here known) (sym f)
    (subst (λ x. IsBefore files x here known) (sym c) (subst (λ x. IsBefore files from x known) (sym t) h))
