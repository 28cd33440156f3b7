use Rattle.std.proofs.Common.{drop, map, true}
use Rattle.x_trees.specs.Gloss.{glossed, other_enumerators_by}
use Rattle.x_trees.specs.View.{view_enumerator}
use Rattle.x_trees.specs.Collected.{ReadsOn}
use Rattle.x_trees.proofs.names.glossary.Walk.other_enumerators.Given as goal

abbrev pub invariant-loop-enumerator : goal.invariant-loop-enumerator
invariant-loop-enumerator l =
    ReadsOn l.fn.self l.self (other_enumerators_by glossed true (map view_enumerator l.enumerators))
    (other_enumerators_by glossed true (map view_enumerator (drop l.enumerator-index l.enumerators)))
