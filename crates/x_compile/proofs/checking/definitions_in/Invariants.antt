use Rattle.std.proofs.Common.{◌≡◌, map, take}
use Rattle.x_trees.specs.View.{tree_at}
use Rattle.x_compile.specs.KeptView.{kept_definition}
use Rattle.x_compile.proofs.checking.definitions_in.Given as goal

abbrev pub invariant-loop-item : goal.invariant-loop-item
invariant-loop-item l = map tree_at l.definitions.items
    ≡ map (λ k. kept_definition k.now) (take l.item-index l.items)
