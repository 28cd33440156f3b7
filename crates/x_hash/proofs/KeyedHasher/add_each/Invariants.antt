use Rattle.std.proofs.Common.{◌≡◌, take}
use Rattle.x_hash.specs.Keys.{hashed}
use Rattle.x_hash.proofs.KeyedHasher.add_each.Given as goal

abbrev pub invariant-loop-byte : goal.invariant-loop-byte
invariant-loop-byte l = l.self ≡ hashed l.initial.self (take l.byte-index l.bytes)
