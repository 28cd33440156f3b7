use Rattle.std.proofs.Common.{◌≡◌, map, drop}
use Rattle.x_trees.specs.Collected.{view_mention}
use Rattle.x_names.specs.DeclarerTable.{first_in}
use Rattle.x_compile.specs.Known.{known_names}
use Rattle.x_prelude.specs.Reaching.{foreign_word}
use Rattle.x_prelude.proofs.leading.foreign_word.Given as goal

-- the word is that of the mentions that are left
abbrev pub invariant-loop-mention : goal.invariant-loop-mention
invariant-loop-mention l = foreign_word l.from_c (known_names l.known) (first_in l.names)
    (map view_mention (drop l.mention-index l.mentions))
    ≡ foreign_word l.from_c (known_names l.known) (first_in l.names) (map view_mention l.mentions)
