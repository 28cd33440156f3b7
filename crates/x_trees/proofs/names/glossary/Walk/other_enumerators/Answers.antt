use Rattle.std.proofs.Common.{◌≡◌, ◌+◌, ◌∷◌, drop, map, true, refl, ap, sym, ◌∙◌}
use Rattle.std.proofs.lemmas.List.{drop_all, drop_more}
use Rattle.x_trees.specs.View.{view_enumerator}
use Rattle.x_trees.specs.Gloss.{glossed, other_enumerators_by}
use Rattle.x_trees.proofs.GlossaryLemmas.{reads, reads_next, reads_start, reads_over, reads_end}
use Rattle.x_trees.proofs.names.glossary.Walk.other_enumerators.Goals as goal

pub loop-enumerator-init : goal.loop-enumerator-init
loop-enumerator-init c = reads_start c.args.self.now _

pub loop-enumerator-preserved : goal.loop-enumerator-preserved
loop-enumerator-preserved c =
    let item = c.enumerator-item.result in
    let rest = drop (c.loop-enumerator.enumerator-index + 1) c.args.enumerators.now in
    let front : drop c.loop-enumerator.enumerator-index c.args.enumerators.now ≡ item ∷ rest =
    drop_more c.args.enumerators.now c.loop-enumerator.enumerator-index _ c.loop-enumerator-test.true
    ∙ ap (λ x. x ∷ rest) (sym c.enumerator-item.is) in
    reads_over (λ xs. other_enumerators_by glossed true (map view_enumerator xs)) item _ rest front refl
    c.loop-enumerator.invariant
    (reads_next (reads c.skip.ensures) c.in_ok-enumerator.ensures)

pub returns : goal.returns
returns c = reads_end (λ xs. other_enumerators_by glossed true (map view_enumerator xs)) _
    (drop_all _ _ c.loop-enumerator-test.false) refl c.loop-enumerator.invariant
