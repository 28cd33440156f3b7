use Rattle.std.proofs.Common.{◌≡◌, ◌+◌, ◌∷◌, ◌++◌, map, drop, ap, sym, ◌∙◌}
use Rattle.std.proofs.lemmas.List.{drop_more}
use Rattle.x_rules.specs.Found.{repeated_names}
use Rattle.x_outline.specs.Parts.{view_name_at}
use Rattle.x_lists.proofs.ListLemmas.{drop_none, listed_more, listed_all}
use Rattle.x_rules.proofs.rules.repeats.add_repeated_fields.Goals as goal

pub loop-body-preserved : goal.loop-body-preserved
loop-body-preserved c =
    let at = c.loop-body.body-index in
    let bs = c.args.bodies.now in
    let here = c.body-item.result in
    let is : drop at bs ≡ here ∷ drop (at + 1) bs = drop_more bs at _ c.loop-body-test.true
    ∙ ap (λ x. x ∷ drop (at + 1) bs) (sym c.body-item.is) in
    listed_more (λ b. repeated_names (map view_name_at b.fields.items)) c.loop-body.faults.items
    c.add_repeated_names.new.faults.items (drop at bs) here (drop (at + 1) bs) _ is
    (c.in_ok-add_repeated_names.ensures
    ∙ ap (λ l. c.loop-body.faults.items ++ repeated_names (map view_name_at l)) c.deref.ensures.value)
    c.loop-body.invariant

pub returns : goal.returns
returns c =
    listed_all (λ b. repeated_names (map view_name_at b.fields.items)) c.loop-body.faults.items _ _
    (drop_none c.args.bodies.now c.loop-body.body-index c.loop-body-test.false) c.loop-body.invariant
