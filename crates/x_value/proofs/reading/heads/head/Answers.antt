use Rattle.std.proofs.Common.{refl, sym, ◌∙◌}
use Rattle.x_value.specs.Jobs.{bad_word}
use Rattle.x_value.proofs.reading.heads.head.Goals as goal

pub returns-in-Some-fault_of_word-clause-err : goal.returns-in-Some-fault_of_word-clause-err
returns-in-Some-fault_of_word-clause-err c =
    bad_word c.in-Some.word c.in-Some.rest.now c.in-Some.ensures.some.0 c.in-Some.ensures.some.1 refl
    (sym c.fault_of_word.ensures ∙ c.in-Some-fault_of_word.is)
