use Rattle.std.proofs.Common.{◌≡◌, map, drop}
use Rattle.std.specs.Cow.{cow_slice_items}
use Rattle.std.specs.Prelude.{option_map}
use Rattle.x_explain.specs.Suggestions.{nearest}
use Rattle.x_explain.proofs.likeness.nearest.Given as goal

-- the nearest of the names from this one on
abbrev pub invariant-loop-index : goal.invariant-loop-index
invariant-loop-index l = option_map (λ n. n.now) l.found
    ≡ nearest l.word.bytes.now (map cow_slice_items (drop l.index l.names))
