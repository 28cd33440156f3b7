use Rattle.std.proofs.Common.{◌≡◌, ◌++◌, take, drop}
use Rattle.x_uses.specs.Slots.{renumbered}
use Rattle.x_uses.proofs.uses.places.renumber.Given as goal

abbrev pub invariant-loop-index : goal.invariant-loop-index
invariant-loop-index g l = l.places ≡ renumbered g.T.AtItem.item_of g.T.AtItem.put l.place
    (take l.index l.initial.places) ++ drop l.index l.initial.places
