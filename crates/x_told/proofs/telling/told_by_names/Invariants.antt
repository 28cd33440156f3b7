use Rattle.x_names.specs.DeclarerTable.{names_in}
use Rattle.x_told.proofs.HeardLemmas.{IsHeard}
use Rattle.x_told.proofs.telling.told_by_names.Given as goal

-- what is kept of the faults so far
abbrev pub invariant-loop-place : goal.invariant-loop-place
invariant-loop-place l = IsHeard l.session.known l.text l.branches (names_in l.names-inside.table.entries)
    l.place-iterator l.voices.items l.told.items
