use Rattle.std.proofs.Common.{drop, map, true}
use Rattle.x_trees.specs.Gloss.{glossed, cases_by}
use Rattle.x_trees.specs.View.{view_value}
use Rattle.x_trees.specs.Collected.{ReadsOn}
use Rattle.x_trees.proofs.names.glossary.Walk.cases.Given as goal

abbrev pub invariant-loop-case : goal.invariant-loop-case
invariant-loop-case l =
    ReadsOn l.fn.self l.self (cases_by glossed true (map view_value l.cases))
    (cases_by glossed true (map view_value (drop l.case-index l.cases)))
