use Rattle.std.proofs.Common.{◌≡◌, ◌+◌, ◌∷◌, drop, map, true, refl, ap, sym, ◌∙◌}
use Rattle.std.proofs.lemmas.List.{drop_all, drop_more}
use Rattle.x_trees.specs.View.{view_argument}
use Rattle.x_trees.specs.Gloss.{glossed, others_by}
use Rattle.x_trees.proofs.GlossaryLemmas.{reads, reads_next, reads_start, reads_over, reads_end}
use Rattle.x_trees.proofs.names.glossary.Walk.others.Goals as goal

pub loop-argument-init : goal.loop-argument-init
loop-argument-init c = reads_start c.args.self.now _

pub loop-argument-preserved : goal.loop-argument-preserved
loop-argument-preserved c =
    let item = c.argument-item.result in
    let rest = drop (c.loop-argument.argument-index + 1) c.args.others.now in
    let front : drop c.loop-argument.argument-index c.args.others.now ≡ item ∷ rest =
    drop_more c.args.others.now c.loop-argument.argument-index _ c.loop-argument-test.true
    ∙ ap (λ x. x ∷ rest) (sym c.argument-item.is) in
    reads_over (λ xs. others_by glossed true (map view_argument xs)) item _ rest front refl
    c.loop-argument.invariant
    (reads_next (reads c.skip.ensures) c.in_ok-argument.ensures)

pub returns : goal.returns
returns c = reads_end (λ xs. others_by glossed true (map view_argument xs)) _
    (drop_all _ _ c.loop-argument-test.false) refl c.loop-argument.invariant
