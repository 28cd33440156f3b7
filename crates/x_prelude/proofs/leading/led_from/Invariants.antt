use Rattle.std.proofs.Common.{length, map}
use Rattle.x_trees.specs.View.{tree_at}
use Rattle.x_names.specs.DeclarerTable.{first_in}
use Rattle.x_prelude.specs.Reaching.{AreNamesOf, AreReached}
use Rattle.x_prelude.proofs.ReachingLemmas.{IsWalk}
use Rattle.x_prelude.proofs.leading.led_from.Given as goal

-- what the items in front use is reached
abbrev pub invariant-loop-index : goal.invariant-loop-index
invariant-loop-index l = record {
  reached : AreReached (length l.definitions) l.reached;
  walk : AreNamesOf (map tree_at l.definitions) (first_in l.names)
      → IsWalk (map tree_at l.definitions) l.from (length l.definitions) l.index l.reached;
}
