-- How runs of engines end: what reads a tap and writes its answers to a sink.
use Rattle.std.specs.Prelude.{◌≡◌, Bool, true, false, Result, Ok, Err}
use Rattle.x_streams.specs.declared.outcome.EngineFault.{EngineFault}
use Rattle.x_streams.specs.declared.outcome.EngineFault.TheVariants.{Read, Write, NoMemory}
use Rattle.x_streams.specs.declared.outcome.Outcome.{Outcome}
use Rattle.x_streams.specs.declared.outcome.Outcome.TheVariants.{Clean, Refused}

abbrev pub is_refused : Outcome → Bool
is_refused Clean = false
is_refused Refused = true

-- a sink that worked still works
abbrev pub WorksOn : Bool → Bool → Type 0
WorksOn before after = before ≡ false → after ≡ false

-- A run names its fault by what failed, and names one where something did: by whether the tap and the sink
-- have failed, before and after.
abbrev pub NamesCause : Result Outcome EngineFault → (tap tap' sink sink' : Bool) → Type 0
NamesCause (Ok outcome) tap tap' sink sink' = (tap' ≡ tap) × WorksOn sink sink'
NamesCause (Err (Read written)) tap tap' sink sink' = (tap' ≡ true) × WorksOn sink sink'
NamesCause (Err (NoMemory written)) tap tap' sink sink' = (tap' ≡ tap) × WorksOn sink sink'
NamesCause (Err (Write written)) tap tap' sink sink' = (tap' ≡ tap) × (sink' ≡ true)
