use Rattle.x_uses.specs.Slots.{going}
use Rattle.x_uses.proofs.Walks.{IsWalked, wanted_of}
use Rattle.x_uses.proofs.uses.replacing.take_out_each.Given as goal

abbrev pub invariant-loop-name : goal.invariant-loop-name
invariant-loop-name l = IsWalked (going l.place) l.name-iterator l.table.entries
    (wanted_of (going l.place) l.gone.entries l.fn.table.entries)
