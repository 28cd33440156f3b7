use Rattle.std.proofs.Common.{◌∙◌, arith}
use Rattle.x_units.proofs.UnitLemmas.{big_number_4, word_read}
use Rattle.x_units.proofs.split_word.Goals as goal

pub returns-clause-some : goal.returns-clause-some
returns-clause-some c = (
  word_read c.read_u32.result c.split_at.result.0.now c.split_at.result.1.now c.args.bytes.now
      c.split_at.ensures.front c.split_at.ensures.back (omega arith) (λ i. omega (arith, c.type_inv.bytes i))
      (c.read_u32.ensures ∙ big_number_4 c.split_at.result.0.now),
  c.read_u32.type_inv,
)
