use Rattle.std.proofs.Common.{◌≡◌, drop}
use Rattle.x_cutting.specs.ItemList as items
use Rattle.x_compile.specs.Counting.{faults_found}
use Rattle.x_follow.specs.Planned.{overlaid}
use Rattle.x_follow.proofs.counting.faults_with.Given as goal

-- the faults with what is planned from this one on
abbrev pub invariant-loop-index : goal.invariant-loop-index
invariant-loop-index l = l.count ≡ faults_found (items.kept (items.patched l.items.list l.patch))
    (overlaid 0 (items.kept (items.patched l.items.list l.patch)) (drop l.index l.found))
