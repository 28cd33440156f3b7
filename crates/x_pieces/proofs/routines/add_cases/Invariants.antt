use Rattle.std.proofs.Common.{◌≡◌, ◌++◌, drop, map}
use Rattle.x_trees.specs.View.{view_value}
use Rattle.x_pieces.specs.Routines.{case_lines}
use Rattle.x_pieces.proofs.routines.add_cases.Given as goal

-- those so far and those that are left
abbrev pub invariant-loop-value : goal.invariant-loop-value
invariant-loop-value l = l.text.items ++ case_lines (map view_value (drop l.value-index l.cases))
    ≡ l.fn.text.items ++ case_lines (map view_value l.cases)
