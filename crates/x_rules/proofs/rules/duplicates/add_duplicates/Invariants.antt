use Rattle.std.proofs.Common.{◌≡◌, ◌++◌, map, drop}
use Rattle.x_trees.specs.Collected.{view_name}
use Rattle.x_rules.specs.Found.{duplicates_from}
use Rattle.x_rules.specs.Tables.{place_seen, seen_by}
use Rattle.x_rules.proofs.rules.duplicates.add_duplicates.Given as goal

-- with the faults of the names that are left, there are those of all
abbrev pub invariant-loop-place : goal.invariant-loop-place
invariant-loop-place l =
    l.faults.items ++ duplicates_from (seen_by l.sights) (place_seen l.sights) l.place
    (map view_name (drop l.place l.declared))
    ≡ l.fn.faults.items ++ duplicates_from (seen_by l.sights) (place_seen l.sights) 0
    (map view_name l.declared)
