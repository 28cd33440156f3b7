use Rattle.std.proofs.Common.{drop, map, true}
use Rattle.x_trees.specs.Gloss.{glossed, others_by}
use Rattle.x_trees.specs.View.{view_argument}
use Rattle.x_trees.specs.Collected.{ReadsOn}
use Rattle.x_trees.proofs.names.glossary.Walk.others.Given as goal

abbrev pub invariant-loop-argument : goal.invariant-loop-argument
invariant-loop-argument l =
    ReadsOn l.fn.self l.self (others_by glossed true (map view_argument l.others))
    (others_by glossed true (map view_argument (drop l.argument-index l.others)))
