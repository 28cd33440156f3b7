use Rattle.std.proofs.Common.{◌≡◌, ◌++◌, drop}
use Rattle.x_told.proofs.ChosenLemmas.{shown_in}
use Rattle.x_told.proofs.choosing.first_of.Given as goal

-- with those that are shown of the faults that are left behind it, the list is what it is to be
abbrev pub invariant-loop-fault : goal.invariant-loop-fault
invariant-loop-fault l = l.list.items ++ shown_in l.error_room l.room (drop l.fault-index l.told)
    ≡ shown_in l.errors l.consequences l.told
