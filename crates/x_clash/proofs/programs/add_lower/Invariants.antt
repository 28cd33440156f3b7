use Rattle.std.proofs.Common.{◌≡◌, ◌++◌, drop}
use Rattle.x_pieces.specs.Procedures.{lower}
use Rattle.x_clash.proofs.programs.add_lower.Given as goal

-- those so far and those that are left
abbrev pub invariant-loop-byte : goal.invariant-loop-byte
invariant-loop-byte l = l.text.items ++ lower (drop l.byte-index l.name) ≡ l.fn.text.items ++ lower l.name
