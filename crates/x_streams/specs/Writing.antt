-- What a sink has of a text that is written in parts.
use Rattle.std.specs.Prelude.{◌≡◌, ℕ, ◌-◌, ◌^◌, ◌≤◌, min, Bool, true, List, ◌++◌, length, take, MatchBool}
use Rattle.std.specs.Prelude.{MatchResult, Result}
use Rattle.std.specs.Io.KnownBytes.{Appends}
use Rattle.x_streams.specs.Streams.{Stream}
use Rattle.x_streams.specs.declared.pen.WriteFault.{WriteFault}

-- a number of bytes as it is counted, which stays at the greatest number of 64 bits
abbrev pub counted : ℕ → ℕ
counted n = min n (2 ^ 64 - 1)

-- a pen: what it holds back, how many bytes the sink took of it, and whether the sink failed it
pub record Inked : Type 0 where
  pub pending : List ℕ
  pub written : ℕ
  pub stopped : Bool

-- what the sink holds grew by the first bytes of the text, `written` of them
pub record HasFront (start now : Stream) (text : List ℕ) (written : ℕ) : Type 0 where
  pub count : ℕ
  pub within : count ≤ length text
  pub taken : Appends start.bytes now.bytes (take count text)
  pub written_is : written ≡ counted count

-- the sink has failed, with a front of the text
pub record StopsWithin (start now : Stream) (text : List ℕ) (written : ℕ) : Type 0 where
  pub front : HasFront start now text written
  pub failed : now.failed ≡ true

-- the sink took the text but for what the pen holds back
pub record HasAllBut (start now : Stream) (text : List ℕ) (pen : Inked) : Type 0 where
  pub front : List ℕ
  pub taken : Appends start.bytes now.bytes front
  pub text_is : text ≡ front ++ pen.pending
  pub written_is : pen.written ≡ counted (length front)

-- Of the text that the pen was given so far, since the sink was as at the start, the sink has all but what
-- the pen holds back; or it has failed, with the front of the text that the pen counted.
abbrev pub Writes : Stream → List ℕ → Inked → Stream → Type 0
Writes start text pen now =
    MatchBool pen.stopped (StopsWithin start now text pen.written) (HasAllBut start now text pen)

-- the pen was given these bytes more, and the sink took no fewer than before
pub record Adds (pen : Inked) (now : Stream) (pen' : Inked) (now' : Stream) (bytes : List ℕ) : Type 0 where
  pub no_fewer : pen.written ≤ pen'.written
  pub goes_on : (start : Stream) (text : List ℕ) → Writes start text pen now
      → Writes start (text ++ bytes) pen' now'

-- At Ok the sink took the text; at Err it has failed, with the first bytes of the text that the fault counts.
abbrev pub IsWritten : {T : Type 0} → Result T WriteFault → Stream → Stream → List ℕ → Type 0
IsWritten result start now text =
    MatchResult result (λ _. Appends start.bytes now.bytes text)
    (λ fault. StopsWithin start now text fault.written)
