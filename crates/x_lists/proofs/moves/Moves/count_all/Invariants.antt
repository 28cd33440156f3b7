use Rattle.std.proofs.Common.{◌≡◌, ◌+◌}
use Rattle.x_lists.proofs.moves.Moves.count_all.Given as goal

abbrev pub invariant-loop-entry : goal.invariant-loop-entry
invariant-loop-entry l = l.self.total ≡ l.initial.self.total + l._entry
