use Rattle.std.proofs.Common.{ap, sym, ◌∙◌}
use Rattle.x_trees.specs.View.{view_body}
use Rattle.x_trees.proofs.Rows.{union_parts}
use Rattle.x_rules.specs.Types.{body_class}
use Rattle.x_rules.specs.Found.{has_no_class}
use Rattle.x_rules.proofs.rules.classes.has_no_body_class.Goals as goal

pub returns-in-Union : goal.returns-in-Union
returns-in-Union c known =
    sym (ap (λ b. has_no_class (body_class known b))
    (ap view_body c.in-Union.is ∙ union_parts c.in-Union.field-0.value))
