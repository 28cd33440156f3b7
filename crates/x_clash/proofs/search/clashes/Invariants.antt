use Rattle.std.proofs.Common.{List, [], ◌++◌, drop, map}
use Rattle.x_names.specs.Declarers.{AreShort}
use Rattle.x_taken.specs.TakenNames.{taken_in}
use Rattle.x_trees.specs.View.{tree_at}
use Rattle.x_clash.specs.Clashes.{AreClashes, Thing}
use Rattle.x_clash.specs.Table.{HasFirsts}
use Rattle.x_clash.specs.declared.clash.Clash.{Clash}
use Rattle.x_clash.proofs.search.clashes.Given as goal

-- what is found of the items so far, and then of those that are left, is all
abbrev pub invariant-loop-item : goal.invariant-loop-item
invariant-loop-item l = AreShort (map tree_at l.definitions) → (things : List Thing)
    × HasFirsts l.table.entries things
    × ((rest : List Clash)
    → AreClashes (taken_in l.taken) l.item things (map tree_at (drop l.item l.definitions)) rest
    → AreClashes (taken_in l.taken) 0 [] (map tree_at l.definitions) (l.found.items ++ rest))
