use Rattle.std.proofs.Common.{map}
use Rattle.x_trees.specs.View.{tree_at}
use Rattle.x_uses.proofs.TableOf.{table_seen}
use Rattle.x_uses.proofs.uses.Uses.of.Goals as goal

pub returns : goal.returns
returns c short = table_seen (map tree_at c.args.definitions.now) c.in_ok-table_of.field-0.entries
    (c.in_ok-table_of.ensures.declarers short) (c.in_ok-table_of.ensures.users short)
