use Rattle.std.proofs.Common.{◌≡◌, ◌+◌, ◌∷◌, [], drop, map, true, refl, ap, sym, ◌∙◌}
use Rattle.std.proofs.lemmas.List.{drop_all, drop_more}
use Rattle.x_trees.specs.View.{view_value}
use Rattle.x_trees.specs.Gloss.{glossed, cases_by}
use Rattle.x_trees.proofs.GlossaryLemmas.{reads, reads_next, reads_start, reads_over, reads_end}
use Rattle.x_trees.proofs.names.glossary.Walk.cases.Goals as goal

pub loop-case-init : goal.loop-case-init
loop-case-init c = reads_start c.args.self.now _

pub loop-case-preserved : goal.loop-case-preserved
loop-case-preserved c =
    let item = c.case-item.result in
    let rest = drop (c.loop-case.case-index + 1) c.args.cases.now in
    let front : drop c.loop-case.case-index c.args.cases.now ≡ item ∷ rest =
    drop_more c.args.cases.now c.loop-case.case-index _ c.loop-case-test.true
    ∙ ap (λ x. x ∷ rest) (sym c.case-item.is) in
    reads_over (λ xs. cases_by glossed true (map view_value xs)) item _ rest front refl c.loop-case.invariant
    (reads_next (reads c.skip.ensures)
    (reads_next {ys = _ ∷ []} c.in_ok-value.ensures (reads c.skip-in-loop-case.ensures)))

pub returns : goal.returns
returns c = reads_end (λ xs. cases_by glossed true (map view_value xs)) _
    (drop_all _ _ c.loop-case-test.false) refl c.loop-case.invariant
