use Rattle.std.proofs.Common.{rules, take_all}
use Rattle.x_hash.proofs.Hashing.{write_more}
use Rattle.x_hash.proofs.KeyedHasher.add_each.Goals as goal

pub loop-byte-preserved : goal.loop-byte-preserved
loop-byte-preserved c = search (rules, write_more)

pub returns : goal.returns
returns c = search (rules, take_all)
