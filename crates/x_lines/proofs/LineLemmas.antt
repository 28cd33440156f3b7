-- The lines of a script, as a reader gives them one by one.
use Rattle.std.proofs.Common.{◌≡◌, ℕ, suc, ◌<◌, List, [], ◌∷◌, ◌++◌, length, cond, Option, None, Some, Ok}
use Rattle.std.proofs.Common.{arith, refl, sym, ap, ◌∙◌, ⊎_elim, append_assoc, append-nil, lt-ltb}
use Rattle.std.specs.Prelude.{filter, nat_lt, ⊤, IfSome}
use Rattle.std.specs.List.{slice_split}
use Rattle.std.proofs.lemmas.List.Splits.{slice_split_none, slice_split_at, slice_split-cons_yes}
use Rattle.std.proofs.lemmas.List.Splits.{length-slice_split}
use Rattle.std.specs.Io.KnownBytes.{Consumes, IsAtEnd}
use Rattle.x_lines.specs.declared.lines.LineEvent.{LineEvent}
use Rattle.x_lines.specs.declared.lines.LineEvent.TheVariants.{Line, TooLong, End}
use Rattle.x_lines.specs.declared.lines.State.{State}
use Rattle.x_lines.specs.declared.lines.State.TheVariants.{Ended}
use Rattle.x_lines.specs.Lines.{is_feed, script_lines, all_but_last, whole_lines, AreFeeds, HasNoFeed}
use Rattle.x_lines.specs.Lines.{Reading, IsNextLine, HasNoLine, ReadsOn}

-- ---- line feeds in front

pub feeds_before : (feeds text : List ℕ) → AreFeeds feeds → script_lines (feeds ++ text) ≡ script_lines text
feeds_before [] text are = refl
feeds_before (feed ∷ feeds) text are =
    ap (filter (λ line. nat_lt 0 (length line)))
    (slice_split-cons_yes is_feed feed (feeds ++ text) (are 0 0 (omega arith)))
    ∙ feeds_before feeds text (λ k d lt. are (suc k) d (omega arith))

-- the parts of a text are one at least
but_last_more : (part : List ℕ) (text : List ℕ)
    → all_but_last (part ∷ slice_split is_feed text) ≡ part ∷ all_but_last (slice_split is_feed text)
but_last_more part text = more (slice_split is_feed text) (rw length-slice_split (omega arith))
  where
    more : (parts : List (List ℕ)) → 0 < length parts
        → all_but_last (part ∷ parts) ≡ part ∷ all_but_last parts
    more [] some = absurd (omega arith)
    more (next ∷ parts) some = refl

pub whole_before : (feeds text : List ℕ) → AreFeeds feeds → whole_lines (feeds ++ text) ≡ whole_lines text
whole_before [] text are = refl
whole_before (feed ∷ feeds) text are =
    ap (λ parts. filter (λ line. nat_lt 0 (length line)) (all_but_last parts))
    (slice_split-cons_yes is_feed feed (feeds ++ text) (are 0 0 (omega arith)))
    ∙ ap (filter (λ line. nat_lt 0 (length line))) (but_last_more [] (feeds ++ text))
    ∙ whole_before feeds text (λ k d lt. are (suc k) d (omega arith))

-- ---- a line

pub line_before : (line text : List ℕ) → HasNoFeed line → 0 < length line
    → script_lines (line ++ 10 ∷ text) ≡ line ∷ script_lines text
line_before line text none some =
    ap (filter (λ l. nat_lt 0 (length l))) (slice_split_at is_feed line 10 text none refl)
    ∙ ap (λ b. cond b (line ∷ script_lines text) (script_lines text)) (lt-ltb 0 (length line) some)

pub whole_line_before : (line text : List ℕ) → HasNoFeed line → 0 < length line
    → whole_lines (line ++ 10 ∷ text) ≡ line ∷ whole_lines text
whole_line_before line text none some =
    ap (λ parts. filter (λ l. nat_lt 0 (length l)) (all_but_last parts))
    (slice_split_at is_feed line 10 text none refl)
    ∙ ap (filter (λ l. nat_lt 0 (length l))) (but_last_more line text)
    ∙ ap (λ b. cond b (line ∷ whole_lines text) (whole_lines text)) (lt-ltb 0 (length line) some)

pub last_line : (line : List ℕ) → HasNoFeed line → 0 < length line → script_lines line ≡ line ∷ []
last_line line none some = ap (filter (λ l. nat_lt 0 (length l))) (slice_split_none is_feed line none)
    ∙ ap (λ b. cond b (line ∷ []) []) (lt-ltb 0 (length line) some)

-- no line feed ends a last line
pub no_whole_line : (rest : List ℕ) → HasNoFeed rest → whole_lines rest ≡ []
no_whole_line rest none = ap (λ parts. filter (λ l. nat_lt 0 (length l)) (all_but_last parts))
    (slice_split_none is_feed rest none)

-- ---- what a reader gives

-- the text of a line that a line feed ends, and what is behind it
regroup : (text feeds line rest later : List ℕ) → text ≡ feeds ++ line ++ 10 ∷ rest
    → text ++ later ≡ feeds ++ (line ++ 10 ∷ (rest ++ later))
regroup text feeds line rest later e = ap (λ l. l ++ later) e ∙ append_assoc (feeds ++ line) (10 ∷ rest) later
    ∙ append_assoc feeds line (10 ∷ (rest ++ later))

-- the line that is found is the next one of the script
pub given_line : (text line rest later : List ℕ) (state : State)
    → IsNextLine text line rest state (Some later)
    → script_lines (text ++ later) ≡ line ∷ script_lines (rest ++ later)
given_line text line rest later state h = ⊎_elim
    (λ e. ap script_lines (regroup text h.feeds line rest later e)
    ∙ feeds_before h.feeds (line ++ 10 ∷ (rest ++ later)) h.are_feeds
    ∙ line_before line (rest ++ later) h.no_feed h.some)
    (λ e. let none : rest ++ later ≡ [] = ap (λ l. rest ++ l) e.3 ∙ append-nil rest ∙ e.1 in
    ap script_lines (ap (λ l. text ++ l) e.3 ∙ append-nil text ∙ e.0) ∙ feeds_before h.feeds line h.are_feeds
    ∙ last_line line h.no_feed h.some ∙ ap (λ l. line ∷ script_lines l) (sym none))
    h.text_is

-- where the end is found the script has no more lines
pub given_end : (text later : List ℕ) → AreFeeds text → IsAtEnd (Some later)
    → script_lines (text ++ later) ≡ []
given_end text later are end = ap script_lines (ap (λ l. text ++ l) end) ∙ feeds_before text [] are

-- a line is one that a line feed ends, but where the reader is at the end
pub given_whole_line : (text line rest later : List ℕ) (state : State) (left : Option (List ℕ))
    → IsNextLine text line rest state left → (state ≡ Ended → ⊥)
    → whole_lines (text ++ later) ≡ line ∷ whole_lines (rest ++ later)
given_whole_line text line rest later state left h goes = ⊎_elim
    (λ e. ap whole_lines (regroup text h.feeds line rest later e)
    ∙ whole_before h.feeds (line ++ 10 ∷ (rest ++ later)) h.are_feeds
    ∙ whole_line_before line (rest ++ later) h.no_feed h.some)
    (λ e. absurd (goes e.2)) h.text_is

-- where a call failed no line feed ends a further line of what was read
pub given_none : (text rest : List ℕ) → HasNoLine text rest → whole_lines text ≡ []
given_none text rest h = ap whole_lines h.trimmed.text_is
    ∙ whole_before h.trimmed.feeds rest h.trimmed.are_feeds ∙ no_whole_line rest h.no_feed

-- ---- a caller's loop

-- These lines were given of the script that the tap had at the
-- start, and those of what is unread and left are still to come.
abbrev pub IsGiven : Option (List ℕ) → List (List ℕ) → List ℕ → Option (List ℕ) → Type 0
IsGiven None lines unread left = ⊤
IsGiven (Some script) lines unread None = ⊥
IsGiven (Some script) lines unread (Some later) = script_lines script
    ≡ lines ++ script_lines (unread ++ later)

pub given_start : (start : Option (List ℕ)) → IsGiven start [] [] start
given_start None = tt
given_start (Some script) = refl

pub given_more : (start left left' : Option (List ℕ)) (lines : List (List ℕ)) (unread come line rest : List ℕ)
    (state : State)
    → IsGiven start lines unread left → Consumes left left' come
    → IsNextLine (unread ++ come) line rest state left' → IsGiven start (lines ++ line ∷ []) rest left'
given_more None left left' lines unread come line rest state given took next = tt
given_more (Some script) None left' lines unread come line rest state given took next = absurd given
given_more (Some script) (Some later) None lines unread come line rest state given took next = absurd took
given_more (Some script) (Some later) (Some later') lines unread come line rest state given took next =
    given ∙ ap (λ l. lines ++ script_lines l) (ap (λ l. unread ++ l) took
    ∙ sym (append_assoc unread come later'))
    ∙ ap (λ l. lines ++ l) (given_line (unread ++ come) line rest later' state next)
    ∙ sym (append_assoc lines (line ∷ []) (script_lines (rest ++ later')))

pub given_all : (start left left' : Option (List ℕ)) (lines : List (List ℕ)) (unread come : List ℕ)
    → IsGiven start lines unread left → Consumes left left' come → AreFeeds (unread ++ come) → IsAtEnd left'
    → IfSome start (λ script. script_lines script ≡ lines)
given_all None left left' lines unread come given took are end = tt
given_all (Some script) None left' lines unread come given took are end = absurd given
given_all (Some script) (Some later) None lines unread come given took are end = absurd took
given_all (Some script) (Some later) (Some later') lines unread come given took are end =
    given ∙ ap (λ l. lines ++ script_lines l) (ap (λ l. unread ++ l) took
    ∙ sym (append_assoc unread come later'))
    ∙ ap (λ l. lines ++ l) (given_end (unread ++ come) later' are end) ∙ append-nil lines

-- any line that was found, also one that is too long, is one line more
pub found_more : (start left left' : Option (List ℕ)) (lines : List (List ℕ)) (unread : List ℕ)
    (new : Reading) (found : LineEvent) → IsGiven start lines unread left
    → (on : ReadsOn unread new left left' (Ok found)) → (found ≡ End → ⊥)
    → (line : List ℕ) × IsGiven start (lines ++ line ∷ []) on.rest left'
found_more start left left' lines unread new Line given on goes = (
  new.line,
  given_more start left left' lines unread on.come new.line on.rest new.state given on.from_tap on.told.1,
)
found_more start left left' lines unread new TooLong given on goes = (
  on.told.0,
  given_more start left left' lines unread on.come on.told.0 on.rest new.state given on.from_tap on.told.2,
)
found_more start left left' lines unread new End given on goes = absurd (goes refl)
