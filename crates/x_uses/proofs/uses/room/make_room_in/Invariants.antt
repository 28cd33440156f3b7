use Rattle.x_uses.specs.Slots.{HasSameLists}
use Rattle.x_uses.proofs.Walks.{HasMadeRoom}
use Rattle.x_uses.proofs.uses.room.make_room_in.Given as goal

abbrev pub invariant-loop-name : goal.invariant-loop-name
invariant-loop-name l = record {
  same : HasSameLists l.fn.table.entries l.table.entries;
  made : HasMadeRoom l.fresh.entries l.name-iterator l.table.entries;
}
