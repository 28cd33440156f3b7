use Rattle.std.proofs.Common.{◌≡◌, List, ◌++◌, map, drop}
use Rattle.std.specs.List.{flat_map}
use Rattle.x_outline.specs.Bodies.{EnumeratorAt}
use Rattle.x_rules.specs.Constants.{Known}
use Rattle.x_rules.specs.Found.{repeated_cases}
use Rattle.x_outline.specs.Parts.{view_value_at}
use Rattle.x_rules.specs.Tables.{HasNumbers, seen_by}
use Rattle.x_rules.proofs.rules.cases.add_repeated_cases.Given as goal

-- with the faults of the bodies that are left, there are those of all
abbrev pub invariant-loop-body : goal.invariant-loop-body
invariant-loop-body l =
    (all : List EnumeratorAt) (known : List Known) → HasNumbers l.constants all known
    → l.faults.items ++ flat_map (λ b. repeated_cases (seen_by l.sights) known
    (map view_value_at b.cases.items)) (drop l.body-index l.bodies)
    ≡ l.fn.faults.items ++ flat_map
    (λ b. repeated_cases (seen_by l.sights) known (map view_value_at b.cases.items)) l.bodies
