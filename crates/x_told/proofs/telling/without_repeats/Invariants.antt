use Rattle.std.proofs.Common.{◌≡◌, ◌++◌, drop}
use Rattle.std.specs.List.{filter}
use Rattle.x_told.proofs.ToldLemmas.{is_free_by}
use Rattle.x_told.proofs.telling.without_repeats.Given as goal

-- with those of the faults that are left behind it, the list is what it is to be
abbrev pub invariant-loop-fault : goal.invariant-loop-fault
invariant-loop-fault l = l.told.items ++ filter (is_free_by l.branches) (drop l.fault-index l.found)
    ≡ filter (is_free_by l.branches) l.found
