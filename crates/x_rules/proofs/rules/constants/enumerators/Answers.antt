use Rattle.std.proofs.Common.{◌≡◌, ◌+◌, ◌∷◌, ◌++◌, drop, map, ap, sym, ◌∙◌, append-nil}
use Rattle.std.proofs.lemmas.List.{drop_all, drop_more}
use Rattle.x_outline.specs.Bodies.{enumerators_in}
use Rattle.x_outline.specs.BodyWalks.{view_body_at}
use Rattle.x_outline.specs.Parts.{view_enumerator_at}
use Rattle.x_rules.proofs.EnumeratorLemmas.{in_more, among_at}
use Rattle.x_rules.proofs.rules.constants.enumerators.Goals as goal

pub loop-body-init : goal.loop-body-init
loop-body-init c filled =
    ap (λ l. map view_enumerator_at l ++ enumerators_in (map view_body_at c.args.bodies.now))
    c.new-list.ensures.items

pub loop-body-preserved : goal.loop-body-preserved
loop-body-preserved c filled =
    let item = c.body-item.result in
    let rest = drop (c.loop-body.body-index + 1) c.args.bodies.now in
    let front : drop c.loop-body.body-index c.args.bodies.now ≡ item ∷ rest =
    drop_more c.args.bodies.now c.loop-body.body-index _ c.loop-body-test.true
    ∙ ap (λ x. x ∷ rest) (sym c.body-item.is) in
    in_more (map view_enumerator_at c.loop-body.list.items)
    (map view_enumerator_at c.add_enumerators.new.list.items) (view_body_at item) (map view_body_at rest) _ _
    (ap (map view_body_at) front)
    (c.in_ok-add_enumerators.ensures (filled item
    (among_at c.args.bodies.now c.loop-body.body-index item rest front))) (c.loop-body.invariant filled)

pub returns : goal.returns
returns c filled =
    sym (append-nil (map view_enumerator_at c.loop-body.list.items))
    ∙ sym (ap (λ xs. map view_enumerator_at c.loop-body.list.items ++ enumerators_in (map view_body_at xs))
    (drop_all _ _ c.loop-body-test.false))
    ∙ c.loop-body.invariant filled
