use Rattle.std.proofs.Common.{map, true, ap, sym}
use Rattle.std.proofs.lemmas.Result.{on_ok_weaker}
use Rattle.x_trees.specs.View.{view_enumerator}
use Rattle.x_trees.specs.Gloss.{glossed, enumerators_by}
use Rattle.x_trees.proofs.GlossaryLemmas.{reads_then, reads_as}
use Rattle.x_trees.proofs.names.glossary.Walk.enumerators.Goals as goal

pub returns-in_ok-enumerator-in-Some : goal.returns-in_ok-enumerator-in-Some
returns-in_ok-enumerator-in-Some c =
    on_ok_weaker c.other_enumerators.result
    (λ x. reads_as (reads_then c.in_ok-enumerator-in-Some.ensures x)
    (ap (λ l. enumerators_by glossed true (map view_enumerator l)) (sym c.in-Some.ensures.cases.0)))
    c.other_enumerators.ensures
