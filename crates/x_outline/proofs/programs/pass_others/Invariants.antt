use Rattle.std.proofs.Common.{drop, map, length}
use Rattle.x_trees.specs.View.{view_argument}
use Rattle.x_trees.specs.Spell.{spell_others}
use Rattle.x_outline.specs.MemberWalks.{Skips}
use Rattle.x_outline.specs.declared.bodies.BodyWalk.{BodyWalk}
use Rattle.x_outline.proofs.programs.pass_others.Given as goal

abbrev pub invariant-loop-argument : goal.invariant-loop-argument
invariant-loop-argument l =
    (to : BodyWalk)
    → Skips l.walk to (length (spell_others (map view_argument (drop l.argument-index l.others))))
    → Skips l.fn.walk to (length (spell_others (map view_argument l.others)))
