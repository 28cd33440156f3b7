use Rattle.x_laws.proofs.SchemaTargets.{as_declared, used_named}
use Rattle.x_laws.proofs.laws.schema_targets.Goals as goal

pub returns-clause-forms : goal.returns-clause-forms
returns-clause-forms c = as_declared

pub returns-clause-uses : goal.returns-clause-uses
returns-clause-uses c = used_named
