use Rattle.std.proofs.Common.{◌≡◌, List, map, drop}
use Rattle.x_trees.specs.View.{view_enumerator}
use Rattle.x_outline.specs.Bodies.{EnumeratorAt}
use Rattle.x_rules.specs.Constants.{Known, number_named}
use Rattle.x_rules.specs.Tables.{HasNumbers}
use Rattle.x_rules.specs.Types.{enum_number, if_all}
use Rattle.x_rules.proofs.ClassLemmas.{with_all}
use Rattle.x_rules.proofs.rules.classes.enum_numbers.Given as goal

-- with the numbers of the enumerators that are left, if those have numbers, there are those of all
abbrev pub invariant-loop-enumerator : goal.invariant-loop-enumerator
invariant-loop-enumerator l =
    (all : List EnumeratorAt) (known : List Known) → HasNumbers l.constants all known
    → with_all l.numbers.items (map (λ e. enum_number (number_named known e.name))
    (map view_enumerator (drop l.enumerator-index l.enumerators)))
    ≡ if_all (map (λ e. enum_number (number_named known e.name)) (map view_enumerator l.enumerators))
