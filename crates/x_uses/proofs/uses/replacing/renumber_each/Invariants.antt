use Rattle.std.proofs.Common.{◌≡◌, ◌++◌, take, drop}
use Rattle.x_uses.specs.Slots.{slot_renumbered}
use Rattle.x_uses.proofs.TableLemmas.{each_slot}
use Rattle.x_uses.proofs.uses.replacing.renumber_each.Given as goal

abbrev pub invariant-loop-index : goal.invariant-loop-index
invariant-loop-index l = l.table.entries
    ≡ each_slot (slot_renumbered l.place) (take l.index l.fn.table.entries) ++ drop l.index l.fn.table.entries
