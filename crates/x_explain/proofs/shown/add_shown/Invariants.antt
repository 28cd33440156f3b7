use Rattle.std.proofs.Common.{ℕ, drop}
use Rattle.x_text.proofs.Listing.{HasListed}
use Rattle.x_explain.specs.Shown.{shown_byte}
use Rattle.x_explain.proofs.shown.add_shown.Given as goal

abbrev pub invariant-loop-byte : goal.invariant-loop-byte
invariant-loop-byte g l = HasListed ℕ (shown_byte l.is_utf8) l.bytes (drop l.byte-index l.bytes)
    l.initial.pen (g.S.Sink.state l.initial.sink) l.pen (g.S.Sink.state l.sink)
