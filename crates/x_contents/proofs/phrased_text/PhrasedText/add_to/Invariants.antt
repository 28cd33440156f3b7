use Rattle.std.proofs.Common.{ℕ, drop}
use Rattle.x_text.proofs.Listing.{HasListed}
use Rattle.x_contents.specs.Phrases.{spelt_byte}
use Rattle.x_contents.proofs.phrased_text.PhrasedText.add_to.Given as goal

abbrev pub invariant-loop-byte : goal.invariant-loop-byte
invariant-loop-byte g l = HasListed ℕ spelt_byte l.byte-items (drop l.byte-index l.byte-items)
    l.initial.pen (g.S.Sink.state l.initial.sink) l.pen (g.S.Sink.state l.sink)
