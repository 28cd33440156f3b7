-- How a run of a script goes on.
use Rattle.std.proofs.Common.{◌≡◌, ◌≤◌, ℕ, arith, Bool, true, false, ◌||◌, List, [], ◌∷◌, ◌++◌, length}
use Rattle.std.proofs.Common.{Option, Some, Ok, refl, sym, ap, subst, ◌∙◌, append-nil}
use Rattle.std.specs.Io.KnownBytes.{Appends}
use Rattle.x_streams.specs.Streams.{Stream}
use Rattle.x_streams.specs.Writing.{Inked, Writes, Adds, counted}
use Rattle.x_streams.proofs.Pens.{writes_none, all_written, counted_all, front_written}
use Rattle.x_script.specs.Answers.{Answer}
use Rattle.x_script.specs.LineAnswers.{IsLineAnswer}
use Rattle.x_lines.specs.Lines.{Reading, IsUnread, script_lines}
use Rattle.x_lines.specs.declared.lines.State.TheVariants.{Between}
use Rattle.x_script.specs.Situations.{Situation, Leaves}
use Rattle.x_script.specs.Script.{then_answer, LineAnswers, AreAnswered, IsGiven, HasGiven, IsAsBefore}
use Rattle.x_script.specs.Script.{HasRun, HasStopped, HasFailed, IsFrontOf, AddsIfFound, script_run}
use Rattle.x_script.proofs.Scripts.{answered_more}

-- between two lines: the lines that were given are answered, and their answers are written
pub record IsBetween (script : List ℕ) (old : Situation) (start : Stream) (session : Situation)
    (reader : Reading) (left : Option (List ℕ)) (refused : Bool) (pen : Inked) (now : Stream) : Type 0 where
  pub given : List (List ℕ)
  pub all : Answer
  pub reads : HasGiven script reader left given
  pub answered : AreAnswered old.how old.text given all
  pub session_is : Leaves old session all.text
  pub refused_is : refused ≡ all.refused
  pub writes : Writes start all.told pen now
  pub goes : pen.stopped ≡ false
  pub empty : pen.pending ≡ []

pub at_start : (script : List ℕ) (old : Situation) (start : Stream) (reader : Reading)
    (left : Option (List ℕ)) (pen : Inked)
    → left ≡ Some script → reader ≡ record { line = []; bytes = []; state = Between }
    → pen ≡ record { pending = []; written = 0; stopped = false }
    → IsBetween script old start old reader left false pen start
at_start script old start reader left pen left_is reader_is pen_is = record {
  given = [];
  all = record { told = []; refused = false; text = old.text };
  reads = record {
    read = [];
    unread = [];
    later = script;
    left_is = left_is;
    script_is = refl;
    unread_is = subst (λ r. IsUnread r left []) (sym reader_is) refl;
    lines_are = refl;
    whole_are = λ goes next. refl;
  };
  answered = refl;
  session_is = record { text_is = refl; how_is = refl };
  refused_is = refl;
  writes = subst (λ (p : Inked). Writes start [] p start) (sym pen_is) (writes_none start);
  goes = ap (λ (p : Inked). p.stopped) pen_is;
  empty = ap (λ (p : Inked). p.pending) pen_is;
}

-- a line is answered behind the others, and its answer is passed on, or the sink has failed
pub record IsBehind (script : List ℕ) (old : Situation) (start : Stream) (session : Situation)
    (reader : Reading) (left : Option (List ℕ)) (refused : Bool) (pen : Inked) (now : Stream) : Type 0 where
  pub earlier : List (List ℕ)
  pub last : List ℕ
  pub all : Answer
  pub answer : Answer
  pub reads : HasGiven script reader left (earlier ++ last ∷ [])
  pub answered : AreAnswered old.how old.text earlier all
  pub is_answer : IsLineAnswer old.how all.text last answer
  pub session_is : Leaves old session answer.text
  pub refused_is : refused ≡ (all.refused || answer.refused)
  pub writes : Writes start (all.told ++ answer.told) pen now
  pub whole : counted (length all.told) ≤ pen.written

no_fewer_then : (a b c d : ℕ) → b ≡ a → b ≤ c → c ≤ d → a ≤ d
no_fewer_then a b c d is first second = omega (arith, is, first, second)

pub behind : (script : List ℕ) (old : Situation) (start : Stream) (session new : Situation)
    (reader reader' : Reading) (left left' : Option (List ℕ)) (refused refuses : Bool)
    (p q r : Inked) (now now' now'' : Stream)
    → (h : IsBetween script old start session reader left refused p now)
    → ((line : List ℕ) × HasGiven script reader' left' (h.given ++ line ∷ [])
    × LineAnswers session.how session.text line (λ a. IsGiven a session new refuses p now q now'))
    → Adds q now' r now'' []
    → IsBehind script old start new reader' left' (refused || refuses) r now''
behind script old start session new reader reader' left left' refused refuses p q r now now' now''
    h k flushed =
    let line = k.0 in
    let text_is : session.text ≡ h.all.text = h.session_is.text_is in
    let how_is : session.how ≡ old.how = h.session_is.how_is in
    let a = k.2.0 in
    let is_answer : IsLineAnswer old.how h.all.text line a =
    subst (λ w. IsLineAnswer w h.all.text line a) how_is
    (subst (λ t. IsLineAnswer session.how t line a) text_is k.2.1) in
    let given : IsGiven a session new refuses p now q now' = k.2.2 in
    let told = flushed.goes_on start (h.all.told ++ a.told) (given.added.goes_on start h.all.told h.writes) in
    record {
      earlier = h.given;
      last = line;
      all = h.all;
      answer = a;
      is_answer = is_answer;
      reads = k.1;
      answered = h.answered;
      session_is = record { text_is = given.session_is.text_is; how_is = given.session_is.how_is ∙ how_is };
      refused_is = λ i. h.refused_is i || given.refused_is i;
      writes = subst (λ t. Writes start t r now'') (append-nil (h.all.told ++ a.told)) told;
      whole = no_fewer_then (counted (length h.all.told)) p.written q.written r.written
          (counted_all p start now h.all.told h.goes h.empty h.writes) given.added.no_fewer flushed.no_fewer;
    }

pub between : (script : List ℕ) (old : Situation) (start : Stream) (session : Situation) (reader : Reading)
    (left : Option (List ℕ)) (refused : Bool) (pen : Inked) (now : Stream)
    → IsBehind script old start session reader left refused pen now → pen.stopped ≡ false → pen.pending ≡ []
    → IsBetween script old start session reader left refused pen now
between script old start session reader left refused pen now h goes empty = record {
  given = h.earlier ++ h.last ∷ [];
  all = then_answer h.all h.answer;
  reads = h.reads;
  answered = answered_more old.how old.text h.earlier h.last h.all h.answered h.answer h.is_answer;
  session_is = h.session_is;
  refused_is = h.refused_is;
  writes = h.writes;
  goes = goes;
  empty = empty;
}

-- the sink failed
pub at_stop : (script : List ℕ) (old : Situation) (start : Stream) (session : Situation) (reader : Reading)
    (left : Option (List ℕ)) (refused : Bool) (pen : Inked) (now : Stream)
    → IsBehind script old start session reader left refused pen now → pen.stopped ≡ true
    → IsFrontOf script (λ lines. HasFailed lines (script_run old session start now) pen.written)
    × (now.failed ≡ true)
at_stop script old start session reader left refused pen now h stops =
    let last = h.answer in
    let front = front_written pen start now (h.all.told ++ last.told) stops h.writes in
    let fails : HasFailed (h.earlier ++ h.last ∷ []) (script_run old session start now) pen.written = record {
      earlier = h.earlier;
      last = h.last;
      lines_are = refl;
      all = h.all;
      answered = h.answered;
      within = (
        last,
        h.is_answer,
        record { front = front.front; whole = h.whole; session_is = h.session_is },
      );
    } in (
      (h.earlier ++ h.last ∷ [], script_lines (h.reads.unread ++ h.reads.later), h.reads.lines_are, fails),
      front.failed,
    )

-- all lines that were given are answered
pub so_far : (script : List ℕ) (old : Situation) (start : Stream) (session : Situation) (reader : Reading)
    (left : Option (List ℕ)) (refused : Bool) (pen : Inked) (now : Stream)
    → (h : IsBetween script old start session reader left refused pen now)
    → HasRun h.given (script_run old session start now) refused
so_far script old start session reader left refused pen now h = record {
  all = h.all;
  answered = h.answered;
  written = all_written pen start now h.all.told h.goes h.empty h.writes;
  refused_is = h.refused_is;
  session_is = h.session_is;
}

-- nothing more was done, so all lines that were given are still answered
pub so_still : (script : List ℕ) (old : Situation) (start : Stream) (session new : Situation)
    (reader : Reading) (left : Option (List ℕ)) (refused : Bool) (p q : Inked) (now now' : Stream)
    → (h : IsBetween script old start session reader left refused p now) → IsAsBefore session new p now q now'
    → HasRun h.given (script_run old new start now') refused
so_still script old start session new reader left refused p q now now' h same =
    subst (λ s. HasRun h.given (script_run old s start now') refused) (sym same.session_same)
    (subst (λ (n : Stream). HasRun h.given (script_run old session start n) refused) (sym same.sink_same)
    (so_far script old start session reader left refused p now h))

-- a fault that is not the sink's
pub at_fault : (script : List ℕ) (old : Situation) (start : Stream) (session new : Situation)
    (reader : Reading) (left : Option (List ℕ)) (refused : Bool) (p q : Inked) (now now' : Stream)
    (written : ℕ) → (h : IsBetween script old start session reader left refused p now)
    → IsAsBefore session new p now q now' → written ≡ q.written
    → HasStopped h.given (script_run old new start now') written
at_fault script old start session new reader left refused p q now now' written h same is = record {
  refused = refused;
  run = record {
    all = h.all;
    answered = h.answered;
    refused_is = h.refused_is;
    written = subst (λ (n : Stream). Appends start.bytes n.bytes h.all.told) (sym same.sink_same)
        (all_written p start now h.all.told h.goes h.empty h.writes);
    session_is = subst (λ s. Leaves old s h.all.text) (sym same.session_same) h.session_is;
  };
  written_is = is ∙ ap (λ (p : Inked). p.written) same.pen_same
      ∙ counted_all p start now h.all.told h.goes h.empty h.writes;
}

-- ---- what failed

pub added_some : {S : Type 0} (found : Option Bool) (refused : Bool) (s s' : S) (Added : Type 0)
    → found ≡ Some refused → AddsIfFound (Ok found) s s' Added → Added
added_some found refused s s' Added is h = subst (λ f. AddsIfFound (Ok f) s s' Added) is h
