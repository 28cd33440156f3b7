use Rattle.std.proofs.Common.{◌≡◌, List, ◌++◌, drop}
use Rattle.std.specs.List.{flat_map}
use Rattle.x_outline.specs.Bodies.{EnumeratorAt}
use Rattle.x_rules.specs.Cases.{bad_cases_of}
use Rattle.x_rules.specs.Constants.{Known}
use Rattle.x_rules.specs.Rules.{Ascends}
use Rattle.x_rules.specs.Tables.{HasNumbers, seen_by}
use Rattle.x_rules.proofs.rules.cases.bad_cases.Given as goal

-- with the faults of the bodies that are left, there are those of all
abbrev pub invariant-loop-body : goal.invariant-loop-body
invariant-loop-body l =
    (all : List EnumeratorAt) (known : List Known) → HasNumbers l.constants all known → Ascends l.found
    → l.faults.items ++ flat_map (bad_cases_of (seen_by l.sights) known l.found) (drop l.body-index l.bodies)
    ≡ flat_map (bad_cases_of (seen_by l.sights) known l.found) l.bodies
