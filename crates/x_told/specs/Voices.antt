-- What is kept of the faults of items until it is known which are told.
use Rattle.std.specs.Prelude.{ℕ, ◌==◌, Bool, true, false, not, ◌&&◌, List, slice_index_or}
use Rattle.std.specs.Prelude.{if◌then◌else◌}
use Rattle.std.specs.List.{list_any}
use Rattle.x_compile.specs.declared.fault.FaultPlace.{FaultPlace}
use Rattle.x_compile.specs.declared.fault.FaultCode.{FaultCode}
use Rattle.x_directives.specs.Branches.{said_of}
use Rattle.x_directives.specs.declared.branches.Turn.{Turn}
use Rattle.x_told.specs.declared.telling.Voice.{Voice}
use Rattle.x_told.specs.declared.telling.Voice.TheVariants.{Faultless, Silent, Telling}
use Rattle.x_told.specs.Telling.{is_repeat}

-- whether a fault repeats a name in a later branch, by what is kept of the branches of cpp
abbrev pub is_of_branch_by : List Turn → FaultCode → (start : ℕ) → Bool
is_of_branch_by turns code start = is_repeat code && said_of turns start

-- what is kept of an item of which some faults are told, and some are not
abbrev pub voice_of : (some_told some_untold : Bool) → Voice
voice_of some_told some_untold =
    if some_told then Telling else if some_untold then Silent else Faultless

-- what is kept of an item, when these are the faults so far
abbrev pub heard_in : (is_told : FaultPlace → Bool) → List FaultPlace → (item : ℕ) → Voice
heard_in is_told places item = voice_of (list_any (λ p. p.item == item && is_told p) places)
    (list_any (λ p. p.item == item && not (is_told p)) places)

-- what is kept when one fault more is told, or is not
abbrev pub heard_with : Bool → Voice → Voice
heard_with true voice = Telling
heard_with false Telling = Telling
heard_with false voice = Silent

-- what is kept of the item at an index
abbrev pub voice_at : List Voice → (item : ℕ) → Voice
voice_at voices item = slice_index_or voices item Faultless

abbrev pub is_silent_voice : Voice → Bool
is_silent_voice Silent = true
is_silent_voice voice = false
