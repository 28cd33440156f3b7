-- Messages behind one another (LSP 3.17, "Base Protocol"): each has header fields, an empty line and a body,
-- as many bytes as its field Content-Length says.
use Rattle.std.specs.Prelude.{◌≡◌, ◌⊎◌, ℕ, ◌<◌, ◌≤◌, ◌&&◌, Bool, true, false}
use Rattle.std.specs.Prelude.{List, [], ◌∷◌, ◌++◌, length, map, codes}
use Rattle.std.specs.Prelude.{Option, None, Some, option_and_then, Result, Ok, Err, if◌then◌else◌, IfSome}
use Rattle.std.specs.Char.{eq_ignore_ascii_case}
use Rattle.std.specs.Str.Parse.{digits_value}
use Rattle.std.specs.Io.KnownBytes.{Consumes, IsAtEnd}
use Rattle.httparse.specs.Grammar.{Field, LineEnd, ReadsSection, print_section}
use Rattle.httparse.specs.Spans.{name_and_value}
use Rattle.x_lines.specs.Numbers.{is_number}
use Rattle.x_frames.specs.declared.framing.FrameFault.{FrameFault}
use Rattle.x_frames.specs.declared.framing.FrameFault.TheVariants.{Read, Bad, NoMemory}
use Rattle.x_frames.specs.declared.framing.FrameFound.{FrameFound}
use Rattle.x_frames.specs.declared.framing.FrameFound.TheVariants.{Message, Long, End}

-- the most bytes of a body that is read, and of the header fields before it with the empty line, and the most
-- fields (this project)
abbrev pub most_body : ℕ
most_body = 67108864

abbrev pub most_head : ℕ
most_head = 65536

abbrev pub most_fields : ℕ
most_fields = 16

-- the two names are one but for the case of letters
abbrev pub is_named : List ℕ → List ℕ → Bool
is_named [] [] = true
is_named [] (c ∷ wanted) = false
is_named (b ∷ name) [] = false
is_named (b ∷ name) (c ∷ wanted) = eq_ignore_ascii_case b c && is_named name wanted

-- the value of the first field that is named Content-Length
abbrev pub length_field : List (List ℕ × List ℕ) → Option (List ℕ)
length_field [] = None
length_field (f ∷ fields) = if is_named f.0 (codes "content-length") then Some f.1 else length_field fields

-- the number that a value of 1 to 9 digits says
abbrev pub short_number : List ℕ → Option ℕ
short_number value = if is_number value then Some (digits_value 10 value) else None

-- how many bytes the fields announce
abbrev pub announced : List (List ℕ × List ℕ) → Option ℕ
announced fields = option_and_then short_number (length_field fields)

-- the bytes are a message with this body, and the rest behind it
pub record IsFramed (bytes body rest : List ℕ) : Type 0 where
  pub fields : List Field
  pub last : LineEnd
  pub reads : ReadsSection bytes fields last (body ++ rest)
  pub length_is : announced (map name_and_value fields) ≡ Some (length body)
  pub few : length fields ≤ most_fields
  pub short_head : length (print_section fields last) ≤ most_head

-- the bytes begin with the header fields of a message whose body is too long to be read
pub record BeginsLong (bytes : List ℕ) : Type 0 where
  pub fields : List Field
  pub last : LineEnd
  pub after : List ℕ
  pub reads : ReadsSection bytes fields last after
  pub length : ℕ
  pub length_is : announced (map name_and_value fields) ≡ Some length
  pub is_long : most_body < length

-- no bytes that follow make the bytes begin with a message
abbrev pub NeverFramed : List ℕ → Type 0
NeverFramed bytes = (more body rest : List ℕ) → ¬ (IsFramed (bytes ++ more) body rest)

-- the bytes begin with no message
abbrev pub IsUnframed : List ℕ → Type 0
IsUnframed bytes = (body rest : List ℕ) → ¬ (IsFramed bytes body rest)

-- a reader of messages: the body of the one that it found last, and the bytes that it read and did not give
pub record FrameReading : Type 0 where
  pub body : List ℕ
  pub unread : List ℕ

-- bytes stay unread, unless they are of a body that is too long
abbrev pub StayUnread : List ℕ → FrameReading → Type 0
StayUnread bytes new = (new.unread ≡ bytes) ⊎ BeginsLong bytes

-- What a reader finds in the bytes that are unread, over a tap that has `left`: the message that they begin
-- with, whose body it passes over where that is too long; or the end, where there are none. It fails where
-- they can be no message, or are none at the end; and where the tap fails, before they are one.
abbrev pub Finds : Result FrameFound FrameFault → List ℕ → FrameReading → Option (List ℕ) → Type 0
Finds (Ok Message) bytes new left = IsFramed bytes new.body new.unread × (length new.body ≤ most_body)
Finds (Ok Long) bytes new left = (body : List ℕ) × IsFramed bytes body new.unread × (most_body < length body)
Finds (Ok End) bytes new left = (bytes ≡ []) × (new.unread ≡ []) × IsAtEnd left
Finds (Err Bad) bytes new left = IfSome left (λ later. IsUnframed (bytes ++ later))
Finds (Err Read) bytes new left = StayUnread bytes new × IsUnframed bytes
Finds (Err NoMemory) bytes new left = StayUnread bytes new

-- a call read on from the tap, and this is what it found
pub record ReadsFrame (old new : FrameReading) (left left' : Option (List ℕ))
    (result : Result FrameFound FrameFault) : Type 0 where
  pub come : List ℕ
  pub from_tap : Consumes left left' come
  pub found : Finds result (old.unread ++ come) new left'

-- a call that failed in reading leaves a tap that has failed, and any other leaves it as it was
abbrev pub FailsReading : {T : Type 0} → Result T FrameFault → Bool → Bool → Type 0
FailsReading (Ok x) before after = after ≡ before
FailsReading (Err Read) before after = after ≡ true
FailsReading (Err fault) before after = after ≡ before
