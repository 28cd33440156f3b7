use Rattle.std.proofs.Common.{◌≡◌, ◌++◌, map, take}
use Rattle.x_uses.specs.Slots.{sum_of}
use Rattle.x_uses.proofs.uses.places.push_all.Given as goal

abbrev pub invariant-loop-other : goal.invariant-loop-other
invariant-loop-other g l = record {
  items : l.places.items ≡ l.initial.places.items
      ++ map (λ y. g.T.AtItem.put (sum_of l.at (g.T.AtItem.item_of y)) y) (take l.other-index l.fresh);
  capacity : l.places.capacity ≡ l.initial.places.capacity;
}
