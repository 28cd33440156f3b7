use Rattle.std.proofs.Common.{arith}
use Rattle.x_units.specs.Units.{padding}
use Rattle.x_units.proofs.UnitLemmas.{cut_in_three}
use Rattle.x_units.proofs.split_body.Goals as goal

pub returns-then-bytes-size-clause-none : goal.returns-then-bytes-size-clause-none
unfolding padding
returns-then-bytes-size-clause-none c = let h = c.if-bytes-size.true in omega arith

pub returns-clause-some : goal.returns-clause-some
unfolding padding
returns-clause-some c = record {
  parts = cut_in_three c.args.len (padding c.args.len) c.args.bytes.now c.split_at.result.0.now
      c.split_at.result.1.now c.split_at-2.result.0.now c.split_at-2.result.1.now c.split_at.ensures.front
      c.split_at.ensures.back c.split_at-2.ensures.front c.split_at-2.ensures.back;
  long = c.split_at.ensures.front_len;
  full = c.split_at-2.ensures.front_len;
}
