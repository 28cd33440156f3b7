use Rattle.std.proofs.Common.{◌≡◌, ◌*◌, length, take}
use Rattle.std.specs.List.{flat_map}
use Rattle.x_value.specs.Lines.{hex_byte}
use Rattle.x_value.proofs.nodes.lines.hex_digits.Given as goal

abbrev pub invariant-loop-index : goal.invariant-loop-index
invariant-loop-index l = (length l.digits ≡ 128)
    × (take (2 * l.index) l.digits ≡ flat_map hex_byte (take l.index l.bytes))
