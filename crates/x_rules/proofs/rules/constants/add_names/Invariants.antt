use Rattle.std.proofs.Common.{drop, map, true}
use Rattle.x_trees.specs.View.{view_enumerator}
use Rattle.x_trees.specs.Collected.{Walked}
use Rattle.x_outline.specs.Bodies.{EnumeratorAt}
use Rattle.x_outline.specs.Parts.{view_enumerator_at}
use Rattle.x_rules.proofs.EnumeratorLemmas.{GoesNames}
use Rattle.x_rules.proofs.rules.constants.add_names.Given as goal

abbrev pub invariant-loop-enumerator : goal.invariant-loop-enumerator
invariant-loop-enumerator l =
    (to : Walked EnumeratorAt)
    → GoesNames (record { word = l.word; list = map view_enumerator_at l.list.items }) to l.is_first
    (map view_enumerator (drop l.enumerator-index l.enumerators))
    → GoesNames (record { word = l.fn.at; list = map view_enumerator_at l.fn.list.items }) to true
    (map view_enumerator l.enumerators)
