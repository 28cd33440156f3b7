use Rattle.std.proofs.Common.{◌≡◌, ◌++◌, map, drop}
use Rattle.x_trees.specs.Collected.{view_name}
use Rattle.x_rules.specs.Found.{too_high_faults}
use Rattle.x_rules.proofs.rules.heights.add_too_high_names.Given as goal

-- with the faults of the names that are left, there are those of all
abbrev pub invariant-loop-name : goal.invariant-loop-name
invariant-loop-name l =
    l.faults.items ++ too_high_faults l.high (map view_name (drop l.name-index l.declared))
    ≡ l.fn.faults.items ++ too_high_faults l.high (map view_name l.declared)
