use Rattle.std.proofs.Common.{◌≡◌, List, ◌++◌, drop}
use Rattle.x_outline.specs.Bodies.{EnumeratorAt}
use Rattle.x_rules.specs.Constants.{Known}
use Rattle.x_rules.specs.Found.{past_last_faults}
use Rattle.x_rules.specs.Tables.{HasNumbers}
use Rattle.x_rules.proofs.rules.words.add_past_last.Given as goal

-- with the faults of the enumerators that are left, there are those of all
abbrev pub invariant-loop-place : goal.invariant-loop-place
invariant-loop-place l =
    (all : List EnumeratorAt) (known : List Known) → HasNumbers l.constants all known
    → l.faults.items ++ past_last_faults (drop l.place known) ≡ l.fn.faults.items ++ past_last_faults known
