use Rattle.std.proofs.Common.{ℕ, drop, [], ◌∷◌}
use Rattle.x_pieces.specs.Texts.{base_byte}
use Rattle.x_text.proofs.Listing.{HasListed}
use Rattle.x_pieces.proofs.prologue.add_base.Given as goal

abbrev pub invariant-loop-byte : goal.invariant-loop-byte
invariant-loop-byte g l = HasListed ℕ (λ b. base_byte b ∷ []) l.base (drop l.byte-index l.base)
    l.initial.pen (g.S.Sink.state l.initial.sink) l.pen (g.S.Sink.state l.sink)
