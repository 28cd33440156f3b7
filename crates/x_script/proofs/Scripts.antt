-- How a script goes on.
use Rattle.std.proofs.Common.{◌≡◌, ℕ, Bool, true, false, ◌||◌, List, [], ◌∷◌, ◌++◌, Option, Some, None}
use Rattle.std.proofs.Common.{Result, Ok, Err, refl, sym, ap, subst, ◌∙◌, append_assoc, append-nil}
use Rattle.std.specs.Prelude.{MatchResult}
use Rattle.std.specs.Io.KnownBytes.{Consumes, IsAtEnd}
use Rattle.x_script.specs.Answers.{Answer}
use Rattle.x_script.specs.LineAnswers.{IsLineAnswer}
use Rattle.x_script.specs.Script.{then_answer, AreAnswered, HasGiven}
use Rattle.x_script.specs.Situations.{How}
use Rattle.x_lines.specs.declared.lines.LineEvent.{LineEvent}
use Rattle.x_lines.specs.declared.lines.LineEvent.TheVariants.{Line, TooLong, End}
use Rattle.x_lines.specs.declared.lines.State.{State}
use Rattle.x_lines.specs.declared.lines.State.TheVariants.{Ended}
use Rattle.x_lines.specs.declared.lines.LineFault.{LineFault}
use Rattle.x_lines.specs.declared.lines.LineFault.TheVariants.{Read, NoMemory}
use Rattle.x_lines.specs.Lines.{Reading, IsUnread, Advances, Tells, HasNoLine, IsNextLine, AreFeeds}
use Rattle.x_lines.specs.Lines.{StopsBehind, script_lines, whole_lines}
use Rattle.x_lines.proofs.LineLemmas.{given_line, given_whole_line, given_none, given_end}

or_assoc : (a b c : Bool) → (a || b || c) ≡ (a || (b || c))
or_assoc false b c = refl
or_assoc true b c = refl

or_false : (a : Bool) → (a || false) ≡ a
or_false false = refl
or_false true = refl

then_assoc : (a b c : Answer) → then_answer (then_answer a b) c ≡ then_answer a (then_answer b c)
then_assoc a b c =
    λ i. record {
      told = append_assoc a.told b.told c.told i;
      refused = or_assoc a.refused b.refused c.refused i;
      text = c.text;
    }

-- no line
abbrev pub nothing : List ℕ → Answer
nothing text = record { told = []; refused = false; text = text }

then_nothing : (a : Answer) → a ≡ then_answer a (nothing a.text)
then_nothing a =
    λ i. record { told = sym (append-nil a.told) i; refused = sym (or_false a.refused) i; text = a.text }

-- one line more
pub answered_more : (how : How) (text : List ℕ) (lines : List (List ℕ)) (line : List ℕ) (all : Answer)
    → AreAnswered how text lines all → (last : Answer) → IsLineAnswer how all.text line last
    → AreAnswered how text (lines ++ line ∷ []) (then_answer all last)
answered_more how text [] line all k last h =
    subst (λ a. IsLineAnswer how a.text line last → AreAnswered how text (line ∷ []) (then_answer a last))
    (sym k)
    (λ is. (last, is, (nothing last.text, refl, then_nothing last))) h
answered_more how text (l ∷ ls) line all k last h =
    let first = k.0 in
    let rest = k.2.0 in
    let left : IsLineAnswer how rest.text line last =
    subst (λ a. IsLineAnswer how a.text line last) k.2.2 h in
    let more = answered_more how first.text ls line rest k.2.1 last left in (
      first,
      k.1,
      (then_answer rest last, more, ap (λ a. then_answer a last) k.2.2 ∙ then_assoc first rest last),
    )

-- what is left of what the tap told
come_split : (left : Option (List ℕ)) (later come : List ℕ) → Consumes (Some later) left come
    → (rest : List ℕ) × (left ≡ Some rest) × (later ≡ come ++ rest)
come_split None later come h = absurd h
come_split (Some rest) later come h = (rest, refl, h)

-- the reader read on behind the lines that it gave
pub record HasRead (script : List ℕ) (given : List (List ℕ)) (old reader : Reading) (left : Option (List ℕ))
    (result : Result LineEvent LineFault) : Type 0 where
  pub read : List ℕ
  pub text : List ℕ
  pub rest : List ℕ
  pub later : List ℕ
  pub left_is : left ≡ Some later
  pub script_is : script ≡ read ++ later
  pub unread_is : IsUnread reader left rest
  pub lines_are : script_lines script ≡ given ++ script_lines (text ++ later)
  pub whole_are : (old.state ≡ Ended → ⊥) → (next : List ℕ)
      → whole_lines (read ++ next) ≡ given ++ whole_lines (text ++ next)
  pub told : MatchResult result (λ found. Tells found reader text rest (Some later))
      (λ _. HasNoLine text rest)

pub has_read : (script : List ℕ) (given : List (List ℕ)) (old new : Reading) (before left : Option (List ℕ))
    (result : Result LineEvent LineFault) → HasGiven script old before given
    → Advances old new before left result
    → HasRead script given old new left result
has_read script given old new before left result h on =
    let goes = on h.unread h.unread_is in
    let split = come_split left h.later goes.come
    (subst (λ b. Consumes b left goes.come) h.left_is goes.from_tap) in
    let text_is : h.unread ++ h.later ≡ (h.unread ++ goes.come) ++ split.0 = ap (λ l. h.unread ++ l) split.2
    ∙ sym (append_assoc h.unread goes.come split.0) in
    record {
      read = h.read ++ goes.come;
      text = h.unread ++ goes.come;
      rest = goes.rest;
      later = split.0;
      left_is = split.1;
      script_is = h.script_is ∙ ap (λ l. h.read ++ l) split.2 ∙ sym (append_assoc h.read goes.come split.0);
      unread_is = goes.unread_is;
      lines_are = h.lines_are ∙ ap (λ t. given ++ script_lines t) text_is;
      whole_are = λ before_end next. ap whole_lines (append_assoc h.read goes.come next)
          ∙ h.whole_are before_end (goes.come ++ next)
          ∙ ap (λ l. given ++ whole_lines l) (sym (append_assoc h.unread goes.come next));
      told = subst (λ l. MatchResult result (λ found. Tells found new (h.unread ++ goes.come) goes.rest l)
          (λ _. HasNoLine (h.unread ++ goes.come) goes.rest)) split.1 goes.told;
    }

-- a line was found
pub line_given : (script : List ℕ) (given : List (List ℕ)) (old reader : Reading) (left : Option (List ℕ))
    (result : Result LineEvent LineFault) (line : List ℕ) → (h : HasRead script given old reader left result)
    → (old.state ≡ Ended → ⊥) → IsNextLine h.text line h.rest reader.state (Some h.later)
    → HasGiven script reader left (given ++ line ∷ [])
line_given script given old reader left result line h before_end next = record {
  read = h.read;
  unread = h.rest;
  later = h.later;
  left_is = h.left_is;
  script_is = h.script_is;
  unread_is = h.unread_is;
  lines_are = h.lines_are ∙ ap (λ l. given ++ l) (given_line h.text line h.rest h.later reader.state next)
      ∙ sym (append_assoc given (line ∷ []) (script_lines (h.rest ++ h.later)));
  whole_are = λ goes later. h.whole_are before_end later
      ∙ ap (λ l. given ++ l) (given_whole_line h.text line h.rest later reader.state (Some h.later) next goes)
      ∙ sym (append_assoc given (line ∷ []) (whole_lines (h.rest ++ later)));
}

-- the end was found
pub all_given : (script : List ℕ) (given : List (List ℕ)) (text later : List ℕ)
    → script_lines script ≡ given ++ script_lines (text ++ later) → AreFeeds text → IsAtEnd (Some later)
    → script_lines script ≡ given
all_given script given text later lines feeds end = lines
    ∙ ap (λ l. given ++ l) (given_end text later feeds end) ∙ append-nil given

-- what is told where something was found
pub found_as : (script : List ℕ) (given : List (List ℕ)) (old reader : Reading) (left : Option (List ℕ))
    (result : Result LineEvent LineFault) (found : LineEvent)
    → (h : HasRead script given old reader left result) → result ≡ Ok found
    → Tells found reader h.text h.rest (Some h.later)
found_as script given old reader left result found h is =
    subst (λ r. MatchResult r (λ f. Tells f reader h.text h.rest (Some h.later))
    (λ _. HasNoLine h.text h.rest)) is h.told

-- a reader that found anything but the end was not at the end
pub before_line : (state : State) (result : Result LineEvent LineFault) → (state ≡ Ended → result ≡ Ok End)
    → result ≡ Ok Line → state ≡ Ended → ⊥
before_line state result ended is e = let end = ended e in absurd (cc)

pub before_long : (state : State) (result : Result LineEvent LineFault) → (state ≡ Ended → result ≡ Ok End)
    → result ≡ Ok TooLong → state ≡ Ended → ⊥
before_long state result ended is e = let end = ended e in absurd (cc)

pub before_fault : (state : State) (result : Result LineEvent LineFault) (fault : LineFault)
    → (state ≡ Ended → result ≡ Ok End) → result ≡ Err fault → state ≡ Ended → ⊥
before_fault state result fault ended is e = let end = ended e in absurd (cc)

-- where a fault leaves a script
pub stops_behind : (script : List ℕ) (given : List (List ℕ)) (old reader : Reading) (left : Option (List ℕ))
    (result : Result LineEvent LineFault) (fault : LineFault)
    → HasRead script given old reader left result → (old.state ≡ Ended → ⊥) → result ≡ Err fault
    → StopsBehind fault script left given
stops_behind script given old reader left result fault h before_end is =
    on fault (subst (λ r. MatchResult r (λ f. Tells f reader h.text h.rest (Some h.later))
    (λ _. HasNoLine h.text h.rest)) is h.told)
  where
    on : (fault : LineFault) → HasNoLine h.text h.rest → StopsBehind fault script left given
    on Read none = (
      h.read,
      subst (λ l. Consumes (Some script) l h.read) (sym h.left_is) h.script_is,
      sym (ap whole_lines (append-nil h.read)) ∙ h.whole_are before_end []
          ∙ ap (λ l. given ++ whole_lines l) (append-nil h.text)
          ∙ ap (λ l. given ++ l) (given_none h.text h.rest none) ∙ append-nil given,
    )
    on NoMemory none = (script_lines (h.text ++ h.later), h.lines_are)

-- memory ran out behind some lines of a script
pub some_given : (script : List ℕ) (given : List (List ℕ)) (old reader : Reading) (left : Option (List ℕ))
    (result : Result LineEvent LineFault) → HasRead script given old reader left result
    → StopsBehind NoMemory script left given
some_given script given old reader left result h = (script_lines (h.text ++ h.later), h.lines_are)
