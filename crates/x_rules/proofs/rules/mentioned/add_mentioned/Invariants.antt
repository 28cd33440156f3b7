use Rattle.std.proofs.Common.{◌≡◌, List, ◌++◌, map, drop}
use Rattle.x_trees.specs.Collected.{view_mention}
use Rattle.x_outline.specs.Bodies.{EnumeratorAt}
use Rattle.x_rules.specs.Constants.{Known}
use Rattle.x_rules.specs.Tables.{HasNumbers, seen_by}
use Rattle.x_rules.specs.Found.{mention_faults}
use Rattle.x_rules.proofs.rules.mentioned.add_mentioned.Given as goal

-- with the faults of the mentions that are left, there are those of all
abbrev pub invariant-loop-mention : goal.invariant-loop-mention
invariant-loop-mention l =
    (all : List EnumeratorAt) (known : List Known) → HasNumbers l.constants all known
    → l.faults.items ++ mention_faults (seen_by l.sights) all
    (map view_mention (drop l.mention-index l.mentions))
    ≡ l.fn.faults.items ++ mention_faults (seen_by l.sights) all (map view_mention l.mentions)
