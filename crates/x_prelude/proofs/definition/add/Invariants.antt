use Rattle.std.proofs.Common.{◌≡◌, ◌++◌, map, drop}
use Rattle.std.specs.List.{concat}
use Rattle.x_prelude.proofs.definition.add.Given as goal

-- with the parts that are left behind it, the text is what it is to be
abbrev pub invariant-loop-part : goal.invariant-loop-part
invariant-loop-part l = l.text.items ++ concat (map (λ p. p.now) (drop l.part-index l.parts))
    ≡ l.fn.text.items ++ concat (map (λ p. p.now) l.parts)
