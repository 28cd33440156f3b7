use Rattle.std.proofs.Common.{◌≡◌, ◌+◌, ◌∷◌, drop, map, refl, ap, sym, subst, ◌∙◌}
use Rattle.std.proofs.lemmas.List.{drop_all, drop_more}
use Rattle.x_trees.specs.View.{view_value}
use Rattle.x_outline.specs.Parts.{view_value_at}
use Rattle.x_outline.specs.BodyWalks.{GoesCases, stand}
use Rattle.x_outline.specs.declared.bodies.Contents.{Contents}
use Rattle.x_lists.proofs.ListLemmas.{map_append}
use Rattle.x_outline.proofs.BodyWalkLemmas.{goes_none, goes_value, goes_cases}
use Rattle.x_outline.proofs.bodies.BodyWalk.cases.Goals as goal

pub loop-value-init : goal.loop-value-init
loop-value-init c to h = h

pub loop-value-preserved : goal.loop-value-preserved
loop-value-preserved c to h =
    let item = c.value-item.result in
    let rest = drop (c.loop-value.value-index + 1) c.args.cases.now in
    let front : drop c.loop-value.value-index c.args.cases.now ≡ item ∷ rest =
    drop_more c.args.cases.now c.loop-value.value-index _ c.loop-value-test.true
    ∙ ap (λ x. x ∷ rest) (sym c.value-item.is) in
    let before = c.loop-value.contents in
    let contents : Contents =
    record {
      fields = before.fields;
      cases = c.push.new.self;
      behind_discriminant = before.behind_discriminant;
    } in
    c.loop-value.invariant to
    (subst (λ xs. GoesCases (stand c.loop-value.self before) to (map view_value xs)) (sym front)
    (goes_cases (view_value item) (map view_value rest) (c.skip.ensures _ _)
    (goes_value (stand c.skip.new.self before) (stand c.skip.new.self contents)
    (view_value item) refl refl refl
    (ap (map view_value_at) c.in_ok-push.ensures.items ∙ map_append view_value_at before.cases.items _))
    (c.skip-in-loop-value.ensures _ _) h))

pub returns : goal.returns
returns c =
    c.loop-value.invariant (stand c.loop-value.self c.loop-value.contents)
    (subst (λ xs. GoesCases (stand c.loop-value.self c.loop-value.contents)
    (stand c.loop-value.self c.loop-value.contents) (map view_value xs))
    (sym (drop_all _ _ c.loop-value-test.false)) (goes_none _))
