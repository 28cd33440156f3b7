use Rattle.std.proofs.Common.{ℕ, drop}
use Rattle.x_text.proofs.Listing.{HasListed}
use Rattle.x_value.specs.Lines.{quoted_byte}
use Rattle.x_value.proofs.nodes.lines.add_each_quoted.Given as goal

abbrev pub invariant-loop-byte : goal.invariant-loop-byte
invariant-loop-byte g l = HasListed ℕ quoted_byte l.bytes (drop l.byte-index l.bytes)
    l.initial.pen (g.S.Sink.state l.initial.sink) l.pen (g.S.Sink.state l.sink)
