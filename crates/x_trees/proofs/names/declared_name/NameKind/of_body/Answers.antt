use Rattle.std.proofs.Common.{ap, sym, ◌∙◌}
use Rattle.x_trees.specs.View.{view_body}
use Rattle.x_trees.specs.Gloss.{body_kind}
use Rattle.x_trees.proofs.Rows.{union_parts}
use Rattle.x_trees.proofs.names.declared_name.NameKind.of_body.Goals as goal

pub returns-in-Union : goal.returns-in-Union
returns-in-Union c = sym (ap body_kind (ap view_body c.in-Union.is ∙ union_parts c.in-Union.field-0.value))
