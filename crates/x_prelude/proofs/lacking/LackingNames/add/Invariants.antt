use Rattle.std.proofs.Common.{List, ◌++◌, map, take}
use Rattle.x_names.specs.DeclarerTable.{first_in}
use Rattle.x_compile.specs.Known.{known_names}
use Rattle.x_prelude.specs.Lacking.{Occurrence, are_lacking}
use Rattle.x_prelude.specs.LackingTable.{HasNames, occurrence}
use Rattle.x_prelude.proofs.lacking.LackingNames.add.Given as goal

-- the tables have the lacking names of the mentions so far
abbrev pub invariant-loop-mention : goal.invariant-loop-mention
invariant-loop-mention l = (before : List Occurrence)
    → HasNames l.fn.self (are_lacking (known_names l.known) (first_in l.names) before)
    → HasNames l.self (are_lacking (known_names l.known) (first_in l.names)
    (before ++ map (occurrence l.item) (take l.mention-index l.mentions)))
