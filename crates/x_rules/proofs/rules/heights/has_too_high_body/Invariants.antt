use Rattle.std.proofs.Common.{◌≡◌, drop}
use Rattle.std.specs.List.{list_any}
use Rattle.x_trees.specs.View.{view_body}
use Rattle.x_rules.specs.Types.{body_height}
use Rattle.x_rules.specs.Tables.{seen_by, is_too_high}
use Rattle.x_rules.proofs.rules.heights.has_too_high_body.Given as goal

-- none of the bodies so far is too high
abbrev pub invariant-loop-body : goal.invariant-loop-body
invariant-loop-body l =
    list_any (λ b. is_too_high (body_height (seen_by l.sights) (view_body b.body.now)))
    (drop l.body-index l.bodies)
    ≡ list_any (λ b. is_too_high (body_height (seen_by l.sights) (view_body b.body.now))) l.bodies
