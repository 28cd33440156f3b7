use Rattle.x_uses.specs.Slots.{AreEmptyFrom}
use Rattle.x_uses.proofs.uses.replacing.count_without_last.Given as goal

abbrev pub invariant-loop-count : goal.invariant-loop-count
invariant-loop-count l = AreEmptyFrom l.count l.table.entries

abbrev pub decreases-loop-count : goal.decreases-loop-count
decreases-loop-count l = l.count
