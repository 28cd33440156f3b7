use Rattle.std.proofs.Common.{drop, Some}
use Rattle.x_trees.specs.Gloss.{glossed, declarations_by, arms_by}
use Rattle.x_trees.specs.View.{view_declarations, view_arms}
use Rattle.x_trees.specs.Collected.{ReadsOn}
use Rattle.x_trees.proofs.names.glossary.Walk.+walk.Given as goal

abbrev pub invariant-declarations-loop-declaration : goal.invariant-declarations-loop-declaration
invariant-declarations-loop-declaration l =
    ReadsOn l.fn.self l.self (declarations_by glossed (Some l.around) (view_declarations l.declarations))
    (declarations_by glossed (Some l.around) (view_declarations (drop l.declaration-index l.declarations)))

abbrev pub invariant-arms-loop-arm : goal.invariant-arms-loop-arm
invariant-arms-loop-arm l =
    ReadsOn l.fn.self l.self (arms_by glossed (Some l.around) (view_arms l.arms))
    (arms_by glossed (Some l.around) (view_arms (drop l.arm-index l.arms)))
