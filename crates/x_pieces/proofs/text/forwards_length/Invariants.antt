use Rattle.std.proofs.Common.{◌≡◌, ◌≤◌, ◌^◌, ◌*◌, length, take}
use Rattle.std.specs.List.{flat_map}
use Rattle.x_pieces.specs.Texts.{forward_of}
use Rattle.x_pieces.proofs.text.forwards_length.Given as goal

abbrev pub invariant-loop-index : goal.invariant-loop-index
invariant-loop-index g l = record {
  counted : l.length ≡ length (flat_map forward_of (take l.index (g.L.PieceList.parts l.list)));
  small : l.length ≤ l.index * 2 ^ 64;
}
