use Rattle.std.proofs.Common.{drop, map, length}
use Rattle.x_trees.specs.View.{view_enumerator}
use Rattle.x_trees.specs.Spell.{spell_other_enumerators}
use Rattle.x_outline.specs.BodyWalks.{Passes}
use Rattle.x_outline.specs.declared.bodies.BodyWalk.{BodyWalk}
use Rattle.x_outline.proofs.bodies.BodyWalk.other_enumerators.Given as goal

abbrev pub invariant-loop-enumerator : goal.invariant-loop-enumerator
invariant-loop-enumerator l =
    (to : BodyWalk) → Passes l.self to
    (length (spell_other_enumerators (map view_enumerator (drop l.enumerator-index l.enumerators))))
    → Passes l.fn.self to (length (spell_other_enumerators (map view_enumerator l.enumerators)))
