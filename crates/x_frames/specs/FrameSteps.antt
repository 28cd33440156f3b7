-- How a message is read: its header fields, and then its body.
use Rattle.std.specs.Prelude.{◌≡◌, ℕ, ◌+◌, ◌<◌, ◌≤◌, List, [], ◌++◌, length, drop, map}
use Rattle.std.specs.Prelude.{Option, None, Some, IfSome}
use Rattle.std.specs.Prelude.{Result, Ok, Err}
use Rattle.std.specs.Io.KnownBytes.{Consumes, IsAtEnd}
use Rattle.httparse.specs.Grammar.{Field, LineEnd, ReadsSection, HasNoSection, print_section}
use Rattle.httparse.specs.Spans.{name_and_value}
use Rattle.x_frames.specs.declared.framing.FrameFault.{FrameFault}
use Rattle.x_frames.specs.declared.framing.FrameFault.TheVariants.{Read, Bad, NoMemory}
use Rattle.x_frames.specs.declared.head.Head.{Head}
use Rattle.x_frames.specs.Framing.{announced, most_head, most_fields, IsUnframed, NeverFramed}

-- bytes came to a buffer behind the old ones, from a tap that had `left` and has `left'`
pub record HasCome (old new : List ℕ) (left left' : Option (List ℕ)) : Type 0 where
  pub come : List ℕ
  pub from_tap : Consumes left left' come
  pub new_is : new ≡ old ++ come

-- so many bytes were passed over, of the old ones and of what came behind them, and these are left
pub record HasPassed (count : ℕ) (old new : List ℕ) (left left' : Option (List ℕ)) : Type 0 where
  pub come : List ℕ
  pub gone : List ℕ
  pub from_tap : Consumes left left' come
  pub all_is : old ++ come ≡ gone ++ new
  pub count_is : length gone ≡ count

-- not so many bytes have come
pub record HasFewer (count : ℕ) (old : List ℕ) (left left' : Option (List ℕ)) : Type 0 where
  pub come : List ℕ
  pub from_tap : Consumes left left' come
  pub fewer : length (old ++ come) < count

-- the bytes begin with the header fields of a message, which have this length and announce so many bytes
pub record IsHeadOf (bytes : List ℕ) (head : Head) : Type 0 where
  pub fields : List Field
  pub last : LineEnd
  pub reads : ReadsSection bytes fields last (drop head.length bytes)
  pub length_is : head.length ≡ length (print_section fields last)
  pub body_is : announced (map name_and_value fields) ≡ Some head.body
  pub within : head.length ≤ length bytes
  pub few : length fields ≤ most_fields
  pub short_head : head.length ≤ most_head

-- what is found at the front of the bytes: header fields; none yet; or what is never a message's
abbrev pub FrontIs : Result (Option Head) FrameFault → List ℕ → Type 0
FrontIs (Ok (Some head)) bytes = IsHeadOf bytes head
FrontIs (Ok None) bytes = HasNoSection bytes
FrontIs (Err Bad) bytes = NeverFramed bytes
FrontIs (Err fault) bytes = ⊥

-- what reading on for header fields comes to, over a tap that has `left` then
abbrev pub FindsHead : Result (Option Head) FrameFault → List ℕ → Option (List ℕ) → Type 0
FindsHead (Ok (Some head)) bytes left = IsHeadOf bytes head
FindsHead (Ok None) bytes left = (bytes ≡ []) × IsAtEnd left
FindsHead (Err Bad) bytes left = IfSome left (λ later. IsUnframed (bytes ++ later))
FindsHead (Err Read) bytes left = IsUnframed bytes
FindsHead (Err NoMemory) bytes left = Unit {0}

-- what passing over so many bytes comes to
abbrev pub Passes : Result Unit FrameFault → ℕ → (old new : List ℕ) → (left left' : Option (List ℕ)) → Type 0
Passes (Ok done) count old new left left' = HasPassed count old new left left'
Passes (Err Bad) count old new left left' = HasFewer count old left left' × IsAtEnd left'
Passes (Err Read) count old new left left' = HasFewer count old left left'
Passes (Err NoMemory) count old new left left' = (come : List ℕ) × Consumes left left' come

-- what reading on for a body comes to
abbrev pub FindsBody : Result Unit FrameFault → Head → List ℕ → Option (List ℕ) → Type 0
FindsBody (Ok done) head bytes left = head.length + head.body ≤ length bytes
FindsBody (Err Bad) head bytes left = (length bytes < head.length + head.body) × IsAtEnd left
FindsBody (Err Read) head bytes left = length bytes < head.length + head.body
FindsBody (Err NoMemory) head bytes left = Unit {0}
