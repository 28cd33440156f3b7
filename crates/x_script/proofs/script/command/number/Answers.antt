use Rattle.std.proofs.Common.{◌∙◌, get_or, sym, refl, arith}
use Rattle.x_lines.proofs.NumberLemmas.{IsNextDigit, next_digit}
use Rattle.x_script.proofs.script.command.number.Goals as goal
use Rattle.x_script.proofs.script.command.number.Goals.{After-from}

next : (c : After-from) → IsNextDigit c.args.word.now c.loop-digit.digit-index c.loop-digit.number
    (get_or c.args.word.now c.loop-digit.digit-index 0)
next c = next_digit c.args.word.now c.loop-digit.digit-index c.loop-digit.number
    (get_or c.args.word.now c.loop-digit.digit-index 0) (omega arith) (omega arith)
    (sym c.all_digits.ensures ∙ c.if-not-all_digits.false) c.loop-digit.invariant refl

pub overflow_mul-number : goal.overflow_mul-number
overflow_mul-number c =
    let next = next_digit c.args.word.now c.loop-digit.digit-index c.loop-digit.number
    (get_or c.args.word.now c.loop-digit.digit-index 0) (omega arith) (omega arith)
    (sym c.all_digits.ensures ∙ c.if-not-all_digits.false) c.loop-digit.invariant refl in omega arith

pub overflow_add-number : goal.overflow_add-number
overflow_add-number c = let n = next c in omega arith

pub loop-digit-preserved : goal.loop-digit-preserved
loop-digit-preserved c = let n = next c in omega arith
