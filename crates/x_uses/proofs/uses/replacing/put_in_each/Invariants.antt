use Rattle.x_uses.specs.Slots.{coming, RoomFor}
use Rattle.x_uses.proofs.Walks.{IsWalked, wanted_of}
use Rattle.x_uses.proofs.uses.replacing.put_in_each.Given as goal

abbrev pub invariant-loop-name : goal.invariant-loop-name
invariant-loop-name l = record {
  walked : IsWalked (coming l.at) l.name-iterator l.table.entries
      (wanted_of (coming l.at) l.fresh.entries l.fn.table.entries);
  room : RoomFor l.table.entries l.name-iterator;
}
