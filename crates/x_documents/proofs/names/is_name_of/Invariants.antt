use Rattle.std.proofs.Common.{◌≡◌}
use Rattle.std.specs.Prelude.{bytes_eq}
use Rattle.percent_encoding.specs.Iter.{decoded_bytes}
use Rattle.x_documents.specs.DocumentNames.{name_of}
use Rattle.x_documents.proofs.names.is_name_of.Given as goal

abbrev pub invariant-loop-byte : goal.invariant-loop-byte
invariant-loop-byte l = bytes_eq l.left (decoded_bytes l.byte-iterator) ≡ bytes_eq l.name (name_of l.uri)
