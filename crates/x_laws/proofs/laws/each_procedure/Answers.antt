use Rattle.x_laws.proofs.EachProcedure.{each_procedure, first_of_numbers, no_other}
use Rattle.x_laws.proofs.FirstPrograms.{first_program}
use Rattle.x_laws.proofs.NoFaults.{by_text}
use Rattle.x_laws.proofs.OnceNumbered.{once, procedures_once, versions_once}
use Rattle.x_laws.proofs.laws.each_procedure.Goals as goal

pub returns-clause-numbers : goal.returns-clause-numbers
returns-clause-numbers c = by_text each_procedure

pub returns-clause-first : goal.returns-clause-first
returns-clause-first c = first_of_numbers

pub returns-clause-no_other : goal.returns-clause-no_other
returns-clause-no_other c = no_other

pub returns-clause-versions : goal.returns-clause-versions
returns-clause-versions c = by_text versions_once

pub returns-clause-procedures : goal.returns-clause-procedures
returns-clause-procedures c = by_text procedures_once

pub returns-clause-once : goal.returns-clause-once
returns-clause-once c = by_text once

pub returns-clause-programs : goal.returns-clause-programs
returns-clause-programs c = λ text items s.
    by_text (λ ds os are fine. first_program ds os s are fine) text items
