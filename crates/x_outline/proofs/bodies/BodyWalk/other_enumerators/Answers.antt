use Rattle.std.proofs.Common.{◌≡◌, ◌+◌, ◌∷◌, drop, map, length, ap, sym, subst, ◌∙◌}
use Rattle.std.proofs.lemmas.List.{drop_all, drop_more}
use Rattle.x_trees.specs.View.{view_enumerator}
use Rattle.x_trees.specs.Spell.{spell_other_enumerators}
use Rattle.x_outline.specs.BodyWalks.{Passes}
use Rattle.x_outline.proofs.BodyWalkLemmas.{goes_none, passes_enumerator}
use Rattle.x_outline.proofs.bodies.BodyWalk.other_enumerators.Goals as goal

pub loop-enumerator-init : goal.loop-enumerator-init
loop-enumerator-init c to h = h

pub loop-enumerator-preserved : goal.loop-enumerator-preserved
loop-enumerator-preserved c to h =
    let item = c.enumerator-item.result in
    let rest = drop (c.loop-enumerator.enumerator-index + 1) c.args.enumerators.now in
    let front : drop c.loop-enumerator.enumerator-index c.args.enumerators.now ≡ item ∷ rest =
    drop_more c.args.enumerators.now c.loop-enumerator.enumerator-index _ c.loop-enumerator-test.true
    ∙ ap (λ x. x ∷ rest) (sym c.enumerator-item.is) in
    c.loop-enumerator.invariant to
    (subst (λ xs. Passes c.loop-enumerator.self to
    (length (spell_other_enumerators (map view_enumerator xs)))) (sym front)
    (passes_enumerator c.loop-enumerator.self c.skip.new.self c.skip-in-loop-enumerator.new.self to
    (view_enumerator item) (map view_enumerator rest) _ c.words_of_enumerator.ensures c.skip.ensures
    c.skip-in-loop-enumerator.ensures h))

pub returns : goal.returns
returns c =
    c.loop-enumerator.invariant c.loop-enumerator.self
    (subst (λ xs. Passes c.loop-enumerator.self c.loop-enumerator.self
    (length (spell_other_enumerators (map view_enumerator xs))))
    (sym (drop_all _ _ c.loop-enumerator-test.false)) (λ fields cases. goes_none _))
