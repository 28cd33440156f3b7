use Rattle.std.proofs.Common.{map}
use Rattle.x_trees.specs.View.{tree_at}
use Rattle.x_names.proofs.DeclarerLaws.{first_by_search}
use Rattle.x_names.proofs.names.Names.keyed.Goals as goal

pub returns : goal.returns
returns c short = first_by_search (map tree_at c.args.definitions.now) c.in_ok-table_of.field-0.entries
    (c.in_ok-table_of.ensures short)
