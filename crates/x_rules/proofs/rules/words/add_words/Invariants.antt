use Rattle.std.proofs.Common.{◌≡◌, List, ◌++◌, map, drop}
use Rattle.x_outline.specs.Bodies.{EnumeratorAt}
use Rattle.x_rules.specs.Constants.{Known}
use Rattle.x_trees.specs.Notes.{view_note_at}
use Rattle.x_rules.specs.Tables.{HasNumbers, seen_by}
use Rattle.x_rules.specs.Found.{note_faults}
use Rattle.x_rules.proofs.rules.words.add_words.Given as goal

-- with the faults of the words that are left, there are those of all
abbrev pub invariant-loop-noted : goal.invariant-loop-noted
invariant-loop-noted l =
    (all : List EnumeratorAt) (known : List Known) → HasNumbers l.constants all known
    → l.faults.items ++ note_faults (seen_by l.sights) known (map view_note_at (drop l.noted-index l.notes))
    ≡ l.fn.faults.items ++ note_faults (seen_by l.sights) known (map view_note_at l.notes)
