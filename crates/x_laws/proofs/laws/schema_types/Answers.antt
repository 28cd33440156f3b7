use Rattle.x_laws.proofs.SchemaTypes.{schema_types}
use Rattle.x_laws.proofs.TypeMeanings.{schema_meant}
use Rattle.x_laws.proofs.laws.schema_types.Goals as goal

pub returns-clause-declared : goal.returns-clause-declared
returns-clause-declared c = schema_types

pub returns-clause-meant : goal.returns-clause-meant
returns-clause-meant c = schema_meant
