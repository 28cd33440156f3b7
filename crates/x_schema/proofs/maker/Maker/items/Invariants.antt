use Rattle.std.proofs.Common.{take, map}
use Rattle.x_trees.specs.View.{tree_at}
use Rattle.x_schema.specs.SchemaMaking.{FindsItems}
use Rattle.x_schema.proofs.maker.Maker.items.Given as goal

abbrev pub invariant-loop-definition : goal.invariant-loop-definition
invariant-loop-definition l =
    FindsItems l.fn.self l.self l.fn.known l.known (map tree_at (take l.definition-index l.definitions))
