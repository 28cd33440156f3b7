use Rattle.std.proofs.Common.{◌≡◌, take}
use Rattle.x_lists.specs.Lengths.{total_length}
use Rattle.x_lists.proofs.measured.total_length.Given as goal

abbrev pub invariant-loop-entry : goal.invariant-loop-entry
invariant-loop-entry g l = l.total ≡ total_length g.T.Measured.length (take l.entry-index l.entries)
