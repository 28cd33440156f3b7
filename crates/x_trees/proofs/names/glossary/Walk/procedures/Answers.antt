use Rattle.std.proofs.Common.{◌≡◌, ◌+◌, ◌∷◌, drop, map, true, refl, ap, sym, ◌∙◌}
use Rattle.std.proofs.lemmas.List.{drop_all, drop_more}
use Rattle.x_trees.specs.View.{view_procedure}
use Rattle.x_trees.specs.Gloss.{glossed, procedures_by}
use Rattle.x_trees.proofs.GlossaryLemmas.{reads_start, reads_over, reads_end}
use Rattle.x_trees.proofs.names.glossary.Walk.procedures.Goals as goal

pub loop-procedure-init : goal.loop-procedure-init
loop-procedure-init c = reads_start c.args.self.now _

pub loop-procedure-preserved : goal.loop-procedure-preserved
loop-procedure-preserved c =
    let item = c.procedure-item.result in
    let rest = drop (c.loop-procedure.procedure-index + 1) c.args.procedures.now in
    let front : drop c.loop-procedure.procedure-index c.args.procedures.now ≡ item ∷ rest =
    drop_more c.args.procedures.now c.loop-procedure.procedure-index _ c.loop-procedure-test.true
    ∙ ap (λ x. x ∷ rest) (sym c.procedure-item.is) in
    reads_over (λ xs. procedures_by glossed true (map view_procedure xs)) item _ rest front refl
    c.loop-procedure.invariant
    (c.in_ok-procedure.ensures)

pub returns : goal.returns
returns c = reads_end (λ xs. procedures_by glossed true (map view_procedure xs)) _
    (drop_all _ _ c.loop-procedure-test.false) refl c.loop-procedure.invariant
