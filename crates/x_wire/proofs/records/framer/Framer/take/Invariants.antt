use Rattle.std.proofs.Common.{◌-◌, ◌≤◌, length, take, false}
use Rattle.x_wire.specs.Framers.{TookBytes, HasGrown}
use Rattle.x_wire.proofs.records.framer.Framer.take.Given as goal

abbrev pub invariant-loop-used : goal.invariant-loop-used
invariant-loop-used l = record {
  took : TookBytes l.fn.self (take l.used l.piece) l.self false;
  within : l.used ≤ length l.piece;
  grown : HasGrown l.fn.self.joined.items l.self.joined.items;
}

abbrev pub decreases-loop-used : goal.decreases-loop-used
decreases-loop-used l = length l.piece - l.used
