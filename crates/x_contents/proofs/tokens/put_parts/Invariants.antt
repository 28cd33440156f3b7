use Rattle.std.proofs.Common.{◌≡◌, drop}
use Rattle.x_contents.specs.TokenKinds.{with_part_kinds}
use Rattle.x_contents.proofs.tokens.put_parts.Given as goal

abbrev pub invariant-loop-part : goal.invariant-loop-part
invariant-loop-part l = with_part_kinds l.kinds.items
    (drop l.part-index l.parts) ≡ with_part_kinds l.fn.kinds.items l.parts
