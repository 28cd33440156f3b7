use Rattle.std.proofs.Common.{◌≡◌, ◌-◌, ◌≤◌, ◌++◌, length, take, drop}
use Rattle.x_uses.specs.Slots.{front_of, rear_of}
use Rattle.x_uses.proofs.uses.places.count_below.Given as goal

abbrev pub invariant-loop-count : goal.invariant-loop-count
invariant-loop-count g l = record {
  within : l.count ≤ length l.places;
  front : front_of g.T.AtItem.item_of l.bound l.places
      ≡ take l.count l.places ++ front_of g.T.AtItem.item_of l.bound (drop l.count l.places);
  rear : rear_of g.T.AtItem.item_of l.bound l.places
      ≡ rear_of g.T.AtItem.item_of l.bound (drop l.count l.places);
}

abbrev pub decreases-loop-count : goal.decreases-loop-count
decreases-loop-count g l = length l.places - l.count
