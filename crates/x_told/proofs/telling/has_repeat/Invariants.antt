use Rattle.std.proofs.Common.{◌≡◌, drop}
use Rattle.std.specs.List.{list_any}
use Rattle.x_compile.specs.declared.fault.FaultPlace.{FaultPlace}
use Rattle.x_told.specs.Voices.{is_of_branch_by}
use Rattle.x_told.proofs.telling.has_repeat.Given as goal

-- what is sought is among those that are left, or nowhere
abbrev pub invariant-loop-fault : goal.invariant-loop-fault
invariant-loop-fault l = list_any (λ (f : FaultPlace). is_of_branch_by l.branches f.code f.start)
    (drop l.fault-index l.found)
    ≡ list_any (λ (f : FaultPlace). is_of_branch_by l.branches f.code f.start) l.found
