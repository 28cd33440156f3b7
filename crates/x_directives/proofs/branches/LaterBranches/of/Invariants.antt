use Rattle.std.proofs.Common.{◌≡◌, ◌≤◌, ◌++◌, length}
use Rattle.x_directives.specs.Directives.{marked_lines}
use Rattle.x_directives.proofs.BranchLemmas.{turns_from}
use Rattle.x_directives.proofs.branches.LaterBranches.of.Given as goal

abbrev pub invariant-lines : goal.invariant-lines
invariant-lines l = record {
  bound : l.deep ≤ length l.turns.items;
  so_far : l.turns.items ++ turns_from l.deep l.lines ≡ turns_from 0 (marked_lines l.fn.text);
}

abbrev pub decreases-lines : goal.decreases-lines
decreases-lines l = length l.lines
