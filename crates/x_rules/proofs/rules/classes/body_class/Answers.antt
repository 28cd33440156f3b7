use Rattle.std.proofs.Common.{ap, sym, ◌∙◌}
use Rattle.x_trees.specs.View.{view_body}
use Rattle.x_trees.proofs.Rows.{union_parts}
use Rattle.x_rules.specs.Types.{body_class}
use Rattle.x_rules.proofs.rules.classes.body_class.Goals as goal

pub returns-in-Union : goal.returns-in-Union
returns-in-Union c all known h =
    sym (ap (body_class known) (ap view_body c.in-Union.is ∙ union_parts c.in-Union.field-0.value))
