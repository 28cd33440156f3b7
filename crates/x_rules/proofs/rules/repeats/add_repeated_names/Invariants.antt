use Rattle.std.proofs.Common.{◌≡◌, ◌++◌, map, drop}
use Rattle.x_rules.specs.Found.{repeats_from, repeated_names}
use Rattle.x_rules.specs.FirstPlaces.{first_place}
use Rattle.x_outline.specs.Parts.{view_name_at}
use Rattle.x_rules.proofs.rules.repeats.add_repeated_names.Given as goal

-- with the faults of the names that are left, there are those of all
abbrev pub invariant-loop-place : goal.invariant-loop-place
invariant-loop-place l =
    l.faults.items ++ repeats_from (first_place 0 (map (λ x. x.name) (map view_name_at l.names))) l.place
    (map view_name_at (drop l.place l.names))
    ≡ l.fn.faults.items ++ repeated_names (map view_name_at l.names)
