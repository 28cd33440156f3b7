use Rattle.std.proofs.Common.{◌≡◌, ◌≤◌, ◌^◌, ◌*◌, length, take}
use Rattle.std.specs.List.{flat_map}
use Rattle.x_pieces.specs.Texts.{part_text}
use Rattle.x_pieces.proofs.text.parts_length.Given as goal

abbrev pub invariant-loop-index : goal.invariant-loop-index
invariant-loop-index g l = record {
  counted : l.length ≡ length (flat_map (part_text l.which) (take l.index (g.L.PieceList.parts l.list)));
  small : l.length ≤ l.index * 2 ^ 65;
}
