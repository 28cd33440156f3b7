use Rattle.std.proofs.Common.{◌^◌, arith, sym}
use Rattle.x_numbers.specs.Numbers.{value_in}
use Rattle.x_numbers.proofs.Digits.{too_great, all_digits}
use Rattle.x_numbers.proofs.value_in.Goals as goal

pub returns-in_default : goal.returns-in_default
returns-in_default c =
    let fails = c.in_default.ensures in
    too_great c.args.base c.loop-byte.value c.args.digits.now c.loop-byte.byte-index
    (value_in c.args.base c.args.digits.now) (2 ^ 64) c.requires c.loop-byte-test.true
    c.loop-byte.invariant.value_is
    (λ fits. fails (omega arith))

pub returns-in_default-checked_add : goal.returns-in_default-checked_add
returns-in_default-checked_add c =
    let fails = c.in_default-checked_add.ensures in
    let high = c.in-Some.ensures.1 in
    too_great c.args.base c.loop-byte.value c.args.digits.now c.loop-byte.byte-index
    (value_in c.args.base c.args.digits.now) (2 ^ 64) c.requires c.loop-byte-test.true
    c.loop-byte.invariant.value_is
    (λ fits. fails (omega (arith, high)))

pub returns : goal.returns
returns c =
    let e = all_digits c.args.base c.loop-byte.value c.args.digits.now c.loop-byte.byte-index
    (value_in c.args.base c.args.digits.now) c.loop-byte-test.false c.loop-byte.invariant.value_is in
    let fits = c.loop-byte.invariant.fits in (omega (arith, e, fits), sym e)
