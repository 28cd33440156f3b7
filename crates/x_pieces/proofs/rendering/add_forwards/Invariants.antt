use Rattle.std.proofs.Common.{◌≡◌, ◌++◌, drop}
use Rattle.std.specs.List.{flat_map}
use Rattle.x_pieces.specs.Header.{forward_line}
use Rattle.x_pieces.specs.Views.{view_types}
use Rattle.x_pieces.proofs.rendering.add_forwards.Given as goal

-- those so far and those that are left
abbrev pub invariant-loop-named : goal.invariant-loop-named
invariant-loop-named l = l.text.items ++ flat_map forward_line (view_types (drop l.named-index l.types))
    ≡ l.fn.text.items ++ flat_map forward_line (view_types l.types)
