use Rattle.std.proofs.Common.{◌≡◌, ◌++◌, map, drop}
use Rattle.std.specs.List.{flat_map}
use Rattle.x_rules.specs.Found.{repeated_names}
use Rattle.x_outline.specs.Parts.{view_name_at}
use Rattle.x_rules.proofs.rules.repeats.add_repeated_fields.Given as goal

-- with the faults of the bodies that are left, there are those of all
abbrev pub invariant-loop-body : goal.invariant-loop-body
invariant-loop-body l =
    l.faults.items ++ flat_map (λ b. repeated_names (map view_name_at b.fields.items))
    (drop l.body-index l.bodies)
    ≡ l.fn.faults.items ++ flat_map (λ b. repeated_names (map view_name_at b.fields.items)) l.bodies
