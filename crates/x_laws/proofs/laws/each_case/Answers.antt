use Rattle.x_laws.proofs.CaseArms.{each_arm}
use Rattle.x_laws.proofs.CaseWords.{each_class, each_once, each_switch, each_word}
use Rattle.x_laws.proofs.NoFaults.{by_text}
use Rattle.x_laws.proofs.laws.each_case.Goals as goal

pub returns-clause-known : goal.returns-clause-known
returns-clause-known c = by_text each_switch

pub returns-clause-classes : goal.returns-clause-classes
returns-clause-classes c = λ text items s. by_text (λ ds os are fine. each_class ds os s are fine) text items

pub returns-clause-words : goal.returns-clause-words
returns-clause-words c = λ text items s. by_text (λ ds os are fine. each_word ds os s are fine) text items

pub returns-clause-once : goal.returns-clause-once
returns-clause-once c = λ text items s. by_text (λ ds os are fine. each_once ds os s are fine) text items

pub returns-clause-arms : goal.returns-clause-arms
returns-clause-arms c = λ text items s. by_text (λ ds os are fine. each_arm ds os s are fine) text items
