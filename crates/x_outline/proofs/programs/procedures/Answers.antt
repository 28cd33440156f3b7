use Rattle.std.proofs.Common.{◌≡◌, ◌+◌, ◌∷◌, [], drop, map, ap, sym, subst, ◌∙◌}
use Rattle.std.proofs.lemmas.List.{drop_all, drop_more}
use Rattle.x_trees.specs.View.{view_procedure}
use Rattle.x_outline.specs.MemberWalks.{AddsProcedures, place}
use Rattle.x_outline.proofs.MemberWalkLemmas.{adds_none, adds_procedures, procedures_start}
use Rattle.x_outline.proofs.programs.procedures.Goals as goal

pub loop-procedure-init : goal.loop-procedure-init
loop-procedure-init c to h = procedures_start c.args.walk.now.word c.new-members.result to
    (map view_procedure c.args.list.now) c.new-members.ensures.names c.new-members.ensures.numbers h

pub loop-procedure-preserved : goal.loop-procedure-preserved
loop-procedure-preserved c to h =
    let item = c.procedure-item.result in
    let rest = drop (c.loop-procedure.procedure-index + 1) c.args.list.now in
    let front : drop c.loop-procedure.procedure-index c.args.list.now ≡ item ∷ rest =
    drop_more c.args.list.now c.loop-procedure.procedure-index _ c.loop-procedure-test.true
    ∙ ap (λ x. x ∷ rest) (sym c.procedure-item.is) in
    c.loop-procedure.invariant to
    (subst (λ xs. AddsProcedures (place c.loop-procedure.walk.word [] c.loop-procedure.members) to
    (map view_procedure xs)) (sym front)
    (adds_procedures (view_procedure item) (map view_procedure rest) c.in_ok-add_procedure.ensures h))

pub returns : goal.returns
returns c =
    let here = place c.loop-procedure.walk.word [] c.loop-procedure.members in
    c.loop-procedure.invariant here (subst (λ xs. AddsProcedures here here (map view_procedure xs))
    (sym (drop_all _ _ c.loop-procedure-test.false)) (adds_none _))
