use Rattle.std.proofs.Common.{◌≡◌, max, drop}
use Rattle.x_trees.specs.View.{view_declarations, view_arms}
use Rattle.x_rules.specs.Types.{fields_height, arms_height}
use Rattle.x_rules.specs.Tables.{seen_by, capped}
use Rattle.x_rules.proofs.rules.heights.+height.Given as goal

-- with those that are left, the height is that of all

abbrev pub invariant-fields_height-loop-declaration : goal.invariant-fields_height-loop-declaration
invariant-fields_height-loop-declaration l =
    max l.height (capped (fields_height (seen_by l.sights)
    (view_declarations (drop l.declaration-index l.declarations))))
    ≡ capped (fields_height (seen_by l.sights) (view_declarations l.declarations))

abbrev pub invariant-arms_height-loop-arm : goal.invariant-arms_height-loop-arm
invariant-arms_height-loop-arm l =
    max l.height (capped (arms_height (seen_by l.sights) (view_arms (drop l.arm-index l.arms))))
    ≡ capped (arms_height (seen_by l.sights) (view_arms l.arms))
