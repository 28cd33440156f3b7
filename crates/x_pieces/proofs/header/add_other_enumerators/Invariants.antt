use Rattle.std.proofs.Common.{◌≡◌, ◌++◌, drop, map, codes}
use Rattle.std.specs.List.{flat_map}
use Rattle.x_trees.specs.View.{view_enumerator}
use Rattle.x_pieces.specs.Header.{enumerator_text}
use Rattle.x_pieces.proofs.header.add_other_enumerators.Given as goal

-- those so far and those that are left
abbrev pub invariant-loop-enumerator : goal.invariant-loop-enumerator
invariant-loop-enumerator l = l.text.items
    ++ flat_map (λ other. codes ",\n" ++ enumerator_text other)
    (map view_enumerator (drop l.enumerator-index l.enumerators))
    ≡ l.fn.text.items ++ flat_map (λ other. codes ",\n" ++ enumerator_text other)
    (map view_enumerator l.enumerators)
