-- The lines of a script, and what a reader of them has read and not given.
use Rattle.std.specs.Prelude.{◌≡◌, ℕ, ◌+◌, ◌<◌, ◌≤◌, ◌⊎◌, Bool, true, false, nat_lt, ◌==◌, List, [], ◌∷◌}
use Rattle.std.specs.Prelude.{◌++◌, length, take, drop, filter, Option, Some, Result, Ok, Err, MatchResult}
use Rattle.std.specs.Prelude.{MatchBool}
use Rattle.std.specs.List.{slice_split, All}
use Rattle.x_lines.specs.declared.lines.LineFault.{LineFault}
use Rattle.x_lines.specs.declared.lines.LineFault.TheVariants.{Read, NoMemory}
use Rattle.x_lines.specs.declared.lines.LineEnd.{LineEnd}
use Rattle.x_lines.specs.declared.lines.LineEnd.TheVariants.{Feed, Text, Far}
use Rattle.x_lines.specs.declared.lines.State.{State}
use Rattle.x_lines.specs.Limits.{most_line}
use Rattle.x_lines.specs.declared.lines.State.TheVariants.{Between, WithinLong, Ended}
use Rattle.x_lines.specs.declared.lines.LineEvent.{LineEvent}
use Rattle.x_lines.specs.declared.lines.LineEvent.TheVariants.{Line, TooLong, End}
use Rattle.std.specs.Io.KnownBytes.{Consumes, IsAtEnd}

-- a line feed
abbrev pub is_feed : ℕ → Bool
is_feed b = b == 10

-- the lines that count: the parts between line feeds that are not empty
abbrev pub script_lines : List ℕ → List (List ℕ)
script_lines text = filter (λ line. nat_lt 0 (length line)) (slice_split is_feed text)

-- a list without its last element
abbrev pub all_but_last : List (List ℕ) → List (List ℕ)
all_but_last [] = []
all_but_last (part ∷ []) = []
all_but_last (part ∷ next ∷ parts) = part ∷ all_but_last (next ∷ parts)

-- the lines that count and that a line feed ends
abbrev pub whole_lines : List ℕ → List (List ℕ)
whole_lines text = filter (λ line. nat_lt 0 (length line)) (all_but_last (slice_split is_feed text))

-- line feeds alone
abbrev pub AreFeeds : List ℕ → Type 0
AreFeeds bytes = All (λ b. is_feed b ≡ true) bytes

-- no line feed
abbrev pub HasNoFeed : List ℕ → Type 0
HasNoFeed bytes = All (λ b. is_feed b ≡ false) bytes

-- a call that failed in reading leaves a tap that has failed, and any other leaves it as it was
abbrev pub FailsBy : {T : Type 0} → Result T LineFault → Bool → Bool → Type 0
FailsBy (Ok x) before after = after ≡ before
FailsBy (Err Read) before after = after ≡ true
FailsBy (Err NoMemory) before after = after ≡ before

-- the bytes came to a queue behind the old ones, from a tap that had `left` and has `left'`
pub record HasCome (old new : List ℕ) (left left' : Option (List ℕ)) (count : ℕ) : Type 0 where
  pub come : List ℕ
  pub from_tap : Consumes left left' come
  pub new_is : new ≡ old ++ come
  pub count_is : count ≡ length come
  pub none : count ≡ 0 → IsAtEnd left'

-- The text but for line feeds at its front.
pub record IsTrimmed (text rest : List ℕ) : Type 0 where
  pub feeds : List ℕ
  pub are_feeds : AreFeeds feeds
  pub text_is : text ≡ feeds ++ rest

-- so many bytes stand before the first line feed, and there are some
pub record EndsAt (bytes : List ℕ) (len : ℕ) : Type 0 where
  pub some : 0 < len
  pub no_feed : HasNoFeed (take len bytes)
  pub bytes_are : bytes ≡ take len bytes ++ 10 ∷ drop (len + 1) bytes

-- the first line feed and what is before it are gone
pub record IsBehindFeed (bytes rest : List ℕ) : Type 0 where
  pub part : List ℕ
  pub no_feed : HasNoFeed part
  pub bytes_are : bytes ≡ part ++ 10 ∷ rest

-- bytes came to a queue from a tap, and line feeds at its front are gone
pub record HasSearched (old new : List ℕ) (left left' : Option (List ℕ)) : Type 0 where
  pub come : List ℕ
  pub from_tap : Consumes left left' come
  pub trimmed : IsTrimmed (old ++ come) new

-- where the first line of these bytes ends, of a tap that has `left`: within its most bytes at a line feed or
-- at the tap's end, or behind them
abbrev pub EndIs : LineEnd → List ℕ → Option (List ℕ) → Type 0
EndIs (Feed len) bytes left = EndsAt bytes len × (len ≤ most_line)
EndIs (Text len) bytes left = HasNoFeed bytes × (len ≡ length bytes) × (len ≤ most_line) × IsAtEnd left
EndIs Far bytes left = HasNoFeed (take (most_line + 1) bytes) × (most_line < length bytes)

-- Bytes came to a queue from a tap and went again: with a line feed all up to the first, without one all.
pub record HasPassed (old new : List ℕ) (left left' : Option (List ℕ))
    (result : Result Bool LineFault) : Type 0 where
  pub come : List ℕ
  pub from_tap : Consumes left left' come
  pub passed : MatchResult result
      (λ found. MatchBool found (IsBehindFeed (old ++ come) new)
      (HasNoFeed (old ++ come) × (new ≡ []) × IsAtEnd left'))
      (λ _. HasNoFeed (old ++ come) × (new ≡ []))

-- A reader of lines: the line that it found last, the bytes that it read and did not give, and where it
-- stands.
pub record Reading : Type 0 where
  pub line : List ℕ
  pub bytes : List ℕ
  pub state : State

-- What was read and not given is the bytes; within a line that is too long it was more, of which the reader
-- keeps none; at the end it is nothing.
abbrev pub InState : State → List ℕ → Option (List ℕ) → List ℕ → Type 0
InState Between bytes left text = text ≡ bytes
InState WithinLong bytes left text =
    (part : List ℕ) × (most_line < length part) × HasNoFeed part × (text ≡ part ++ bytes)
InState Ended bytes left text = (text ≡ []) × IsAtEnd left

-- the reader stands before this text that was read and not given, over a tap that has `left`
abbrev pub IsUnread : Reading → Option (List ℕ) → List ℕ → Type 0
IsUnread reader left text = InState reader.state reader.bytes left text

-- The text is line feeds alone, the line, and a line feed and the rest; or the line is the last one, no line
-- feed ends it, and the reader is at the end.
pub record IsNextLine (text line rest : List ℕ) (state : State) (left : Option (List ℕ)) : Type 0 where
  pub feeds : List ℕ
  pub are_feeds : AreFeeds feeds
  pub some : 0 < length line
  pub no_feed : HasNoFeed line
  pub text_is : (text ≡ feeds ++ line ++ 10 ∷ rest)
      ⊎ ((text ≡ feeds ++ line) × (rest ≡ []) × (state ≡ Ended) × IsAtEnd left)

-- what is told of the text, of which `rest` stays unread: its first line, that this is too long, or that
-- there is none
abbrev pub Tells : LineEvent → Reading → List ℕ → List ℕ → Option (List ℕ) → Type 0
Tells Line new text rest left = (length new.line ≤ most_line) × IsNextLine text new.line rest new.state left
Tells TooLong new text rest left =
    (line : List ℕ) × (most_line < length line) × IsNextLine text line rest new.state left
Tells End new text rest left = AreFeeds text × (rest ≡ []) × (new.state ≡ Ended) × IsAtEnd left

-- the text holds no line that a line feed ends
pub record HasNoLine (text rest : List ℕ) : Type 0 where
  pub trimmed : IsTrimmed text rest
  pub no_feed : HasNoFeed rest

-- A call read on from this unread text: what came from the tap, what stays unread, and what it answers of all
-- that.
pub record ReadsOn (unread : List ℕ) (new : Reading) (left left' : Option (List ℕ))
    (result : Result LineEvent LineFault) : Type 0 where
  pub come : List ℕ
  pub from_tap : Consumes left left' come
  pub rest : List ℕ
  pub unread_is : IsUnread new left' rest
  pub told : MatchResult result (λ found. Tells found new (unread ++ come) rest left')
      (λ _. HasNoLine (unread ++ come) rest)

-- the same of every text that the reader may stand before
abbrev pub Advances : Reading → Reading → Option (List ℕ) → Option (List ℕ) → Result LineEvent LineFault
    → Type 0
Advances old new left left' result =
    (unread : List ℕ) → IsUnread old left unread → ReadsOn unread new left left' result

-- Where a fault leaves a script: in reading, the lines given are all that a line feed ends in what was read;
-- for want of memory they are some, from the first on.
abbrev pub StopsBehind : LineFault → (script : List ℕ) (left : Option (List ℕ)) (given : List (List ℕ))
    → Type 0
StopsBehind Read script left given =
    (read : List ℕ) × Consumes (Some script) left read × (whole_lines read ≡ given)
StopsBehind NoMemory script left given = (rest : List (List ℕ)) × (script_lines script ≡ given ++ rest)
