use Rattle.x_laws.proofs.EnumNumbers.{enum_numbers}
use Rattle.x_laws.proofs.SchemaNumbers.{schema_numbers}
use Rattle.x_laws.proofs.UsedNumbers.{value_number}
use Rattle.x_laws.proofs.laws.schema_numbers.Goals as goal

pub returns-clause-names : goal.returns-clause-names
returns-clause-names c = schema_numbers

pub returns-clause-values : goal.returns-clause-values
returns-clause-values c = value_number

pub returns-clause-enumerators : goal.returns-clause-enumerators
returns-clause-enumerators c = enum_numbers
