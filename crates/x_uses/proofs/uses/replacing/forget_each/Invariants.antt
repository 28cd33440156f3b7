use Rattle.x_uses.specs.Slots.{HasSameLists}
use Rattle.x_uses.proofs.uses.replacing.forget_each.Given as goal

abbrev pub invariant-loop-name : goal.invariant-loop-name
invariant-loop-name l = HasSameLists l.fn.table.entries l.table.entries
