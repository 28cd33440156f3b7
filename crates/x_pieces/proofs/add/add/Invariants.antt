use Rattle.std.proofs.Common.{◌≡◌, map, drop}
use Rattle.x_pieces.specs.Parts.{behind}
use Rattle.x_pieces.proofs.add.add.Given as goal

-- those so far and those that are left
abbrev pub invariant-loop-part : goal.invariant-loop-part
invariant-loop-part l = behind l.text.items (map (λ p. p.now) (drop l.part-index l.parts))
    ≡ behind l.fn.text.items (map (λ p. p.now) l.parts)
