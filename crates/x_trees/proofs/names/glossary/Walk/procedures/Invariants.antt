use Rattle.std.proofs.Common.{drop, map, true}
use Rattle.x_trees.specs.Gloss.{glossed, procedures_by}
use Rattle.x_trees.specs.View.{view_procedure}
use Rattle.x_trees.specs.Collected.{ReadsOn}
use Rattle.x_trees.proofs.names.glossary.Walk.procedures.Given as goal

abbrev pub invariant-loop-procedure : goal.invariant-loop-procedure
invariant-loop-procedure l =
    ReadsOn l.fn.self l.self (procedures_by glossed true (map view_procedure l.procedures))
    (procedures_by glossed true (map view_procedure (drop l.procedure-index l.procedures)))
