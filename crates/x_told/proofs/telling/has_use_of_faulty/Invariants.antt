use Rattle.std.proofs.Common.{◌≡◌, drop}
use Rattle.std.specs.List.{list_any}
use Rattle.x_compile.specs.declared.fault.FaultPlace.{FaultPlace}
use Rattle.x_told.specs.Telling.{is_of_faulty}
use Rattle.x_told.proofs.telling.has_use_of_faulty.Given as goal

-- what is sought is among those that are left, or nowhere
abbrev pub invariant-loop-fault : goal.invariant-loop-fault
invariant-loop-fault l = list_any (λ (f : FaultPlace). is_of_faulty f.code) (drop l.fault-index l.found)
    ≡ list_any (λ (f : FaultPlace). is_of_faulty f.code) l.found
