use Rattle.std.proofs.Common.{◌≡◌, [], map}
use Rattle.x_trees.specs.View.{tree_at}
use Rattle.x_names.specs.Declarers.{first_declarer}
use Rattle.x_names.specs.DeclarerTable.{first_in}
use Rattle.x_compile.specs.Known.{known_names}
use Rattle.x_prelude.specs.Reaching.{AreNamesOf, is_marked}
use Rattle.x_prelude.proofs.LeadingLemmas.{led_in_front}
use Rattle.x_prelude.proofs.leading.first_marked.Given as goal

-- the items so far have none
abbrev pub invariant-loop-item : goal.invariant-loop-item
invariant-loop-item l = AreNamesOf (map tree_at l.definitions) (first_in l.names)
    → led_in_front l.from_c (known_names l.known) (first_declarer (map tree_at l.definitions))
    (is_marked l.marks) l.item (map tree_at l.definitions) ≡ []
