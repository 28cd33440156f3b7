use Rattle.std.proofs.Common.{refl, sym, ap, ◌∙◌, ◌++◌, arith}
use Rattle.x_units.specs.Units.{padding}
use Rattle.x_value.specs.Jobs.{cut_body, bad_pad}
use Rattle.x_value.proofs.Bytes.{zeros_copies}
use Rattle.x_value.proofs.reading.words.body.Goals as goal

pub returns-in_default-clause-err : goal.returns-in_default-clause-err
returns-in_default-clause-err c = cut_body refl refl c.in_default.ensures.none

pub returns-then-is_zeros-clause-ok : goal.returns-then-is_zeros-clause-ok
returns-then-is_zeros-clause-ok c =
    let cut = c.in-Some.ensures.some in
    record {
      long = cut.long;
      parts = cut.parts ∙ ap (λ t. c.in-Some.body.now ++ (t ++ c.in-Some.rest.now))
          (zeros_copies (padding c.args.len) c.in-Some.filling.now cut.full
          (sym c.is_zeros.ensures ∙ c.if-is_zeros.true));
    }

pub returns-else-is_zeros-clause-err : goal.returns-else-is_zeros-clause-err
returns-else-is_zeros-clause-err c =
    let cut = c.in-Some.ensures.some in
    bad_pad c.in-Some.body.now c.in-Some.filling.now c.in-Some.rest.now cut.parts cut.long cut.full
    (sym c.is_zeros.ensures ∙ c.if-is_zeros.false) (let long = cut.long in omega (arith, long)) refl
