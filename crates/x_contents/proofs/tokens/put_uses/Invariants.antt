use Rattle.std.proofs.Common.{◌≡◌, drop, map}
use Rattle.x_names.specs.DeclarerTable.{first_in}
use Rattle.x_trees.specs.Collected.{view_mention}
use Rattle.x_contents.specs.TokenKinds.{with_uses}
use Rattle.x_contents.proofs.tokens.put_uses.Given as goal

abbrev pub invariant-loop-mention : goal.invariant-loop-mention
invariant-loop-mention l =
    with_uses (first_in l.names) l.words l.kinds.items (map view_mention (drop l.mention-index l.mentioned))
    ≡ with_uses (first_in l.names) l.words l.fn.kinds.items (map view_mention l.mentioned)
