use Rattle.x_laws.proofs.EnumNumbers.{enum_in_schema, enum_numbers}
use Rattle.x_laws.proofs.NoFaults.{by_text}
use Rattle.x_laws.proofs.SchemaNumbers.{schema_numbers}
use Rattle.x_laws.proofs.SchemaTargets.{as_declared, used_named}
use Rattle.x_laws.proofs.SchemaTypes.{schema_types}
use Rattle.x_laws.proofs.TypeMeanings.{schema_meant}
use Rattle.x_laws.proofs.UsedNumbers.{value_number}
use Rattle.x_laws.proofs.laws.types_of_text.Goals as goal

pub returns-clause-types : goal.returns-clause-types
returns-clause-types c = λ text items s. by_text (λ ds os are fine. schema_types ds os s are fine) text items

pub returns-clause-meant : goal.returns-clause-meant
returns-clause-meant c = λ text items s. by_text (λ ds os are fine. schema_meant ds os s are fine) text items

pub returns-clause-forms : goal.returns-clause-forms
returns-clause-forms c = λ text items s. by_text (λ ds os are fine. as_declared ds os s are fine) text items

pub returns-clause-uses : goal.returns-clause-uses
returns-clause-uses c = λ text items s. by_text (λ ds os are fine. used_named ds os s are fine) text items

pub returns-clause-numbers : goal.returns-clause-numbers
returns-clause-numbers c = by_text schema_numbers

pub returns-clause-values : goal.returns-clause-values
returns-clause-values c = by_text value_number

pub returns-clause-enumerators : goal.returns-clause-enumerators
returns-clause-enumerators c = by_text enum_numbers

pub returns-clause-enums : goal.returns-clause-enums
returns-clause-enums c = λ text items s.
    by_text (λ ds os are fine. enum_in_schema ds os s are fine) text items
