use Rattle.std.proofs.Common.{ℕ, List, take}
use Rattle.x_lex.specs.declared.kind.Kind.{Kind}
use Rattle.x_names.specs.Declarers.{first_declarer}
use Rattle.x_compile.specs.Compile.{IsCompilation, Item, definitions_of}
use Rattle.x_compile.specs.Known.{known_names}
use Rattle.x_prelude.specs.Lacking.{are_lacking, occurrences_from}
use Rattle.x_prelude.specs.LackingTable.{HasNames}
use Rattle.x_prelude.proofs.lacking.lacking.Given as goal

-- the tables have the lacking names of the items so far
abbrev pub invariant-loop-item : goal.invariant-loop-item
invariant-loop-item l = (tokens : List (Kind × ℕ)) (items : List Item)
    → IsCompilation l.session.known l.session.text tokens items
    → HasNames l.lacks (are_lacking (known_names l.known)
    (first_declarer (definitions_of items)) (occurrences_from 0 (definitions_of (take l.item items))))
