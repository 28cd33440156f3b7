use Rattle.std.proofs.Common.{◌≡◌, List, ◌++◌, map, drop}
use Rattle.x_outline.specs.Bodies.{EnumeratorAt}
use Rattle.x_rules.specs.Cases.{case_faults}
use Rattle.x_rules.specs.Constants.{Known}
use Rattle.x_rules.specs.KeptViews.{kept_class}
use Rattle.x_outline.specs.Parts.{view_value_at}
use Rattle.x_rules.specs.Tables.{HasNumbers, seen_by}
use Rattle.x_rules.proofs.rules.cases.add_case_faults.Given as goal

-- with the faults of the cases that are left, there are those of all
abbrev pub invariant-loop-case : goal.invariant-loop-case
invariant-loop-case l =
    (all : List EnumeratorAt) (known : List Known) → HasNumbers l.constants all known
    → l.faults.items ++ case_faults (seen_by l.sights) known (kept_class l.class)
    (map view_value_at (drop l.case-index l.cases))
    ≡ l.fn.faults.items ++ case_faults (seen_by l.sights) known (kept_class l.class)
    (map view_value_at l.cases)
