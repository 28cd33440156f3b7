use Rattle.std.proofs.Common.{◌≡◌, ◌+◌, ◌∷◌, [], drop, map, length, ap, sym, subst, ◌∙◌}
use Rattle.std.proofs.lemmas.List.{drop_all, drop_more}
use Rattle.x_trees.specs.View.{view_argument}
use Rattle.x_trees.specs.Spell.{spell_others}
use Rattle.x_trees.proofs.CollectLemmas.{finds_none}
use Rattle.x_outline.specs.MemberWalks.{Skips}
use Rattle.x_outline.proofs.MemberWalkLemmas.{skips_other}
use Rattle.x_outline.proofs.programs.pass_others.Goals as goal

pub loop-argument-init : goal.loop-argument-init
loop-argument-init c to h = h

pub loop-argument-preserved : goal.loop-argument-preserved
loop-argument-preserved c to h =
    let item = c.argument-item.result in
    let rest = drop (c.loop-argument.argument-index + 1) c.args.others.now in
    let front : drop c.loop-argument.argument-index c.args.others.now ≡ item ∷ rest =
    drop_more c.args.others.now c.loop-argument.argument-index _ c.loop-argument-test.true
    ∙ ap (λ x. x ∷ rest) (sym c.argument-item.is) in
    c.loop-argument.invariant to
    (subst (λ xs. Skips c.loop-argument.walk to (length (spell_others (map view_argument xs)))) (sym front)
    (skips_other c.loop-argument.walk c.skip.new.self c.pass_argument.new.walk to (view_argument item)
    (map view_argument rest) (c.skip.ensures [] []).bodies c.in_ok-pass_argument.ensures h))

pub returns : goal.returns
returns c =
    c.loop-argument.invariant c.loop-argument.walk
    (subst (λ xs. Skips c.loop-argument.walk c.loop-argument.walk
    (length (spell_others (map view_argument xs)))) (sym (drop_all _ _ c.loop-argument-test.false))
    (finds_none _))
