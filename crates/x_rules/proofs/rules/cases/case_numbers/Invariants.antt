use Rattle.std.proofs.Common.{◌≡◌, List, ◌++◌, map, drop}
use Rattle.x_outline.specs.Bodies.{EnumeratorAt}
use Rattle.x_rules.specs.Constants.{Known}
use Rattle.x_rules.specs.Found.{case_numbers}
use Rattle.x_outline.specs.Parts.{view_value_at}
use Rattle.x_rules.specs.Tables.{HasNumbers, seen_by}
use Rattle.x_rules.proofs.rules.cases.case_numbers.Given as goal

-- with those that are left, there are the numbers of all
abbrev pub invariant-loop-case : goal.invariant-loop-case
invariant-loop-case l =
    (all : List EnumeratorAt) (known : List Known) → HasNumbers l.constants all known
    → l.list.items ++ case_numbers (seen_by l.sights) known (map view_value_at (drop l.case-index l.cases))
    ≡ case_numbers (seen_by l.sights) known (map view_value_at l.cases)
