use Rattle.std.proofs.Common.{◌≡◌, ◌∷◌, ◌+◌, drop, map, ap, sym, ◌∙◌}
use Rattle.x_trees.specs.View.{view_enumerator}
use Rattle.x_schema.specs.SchemaOf.{with_enumerators}
use Rattle.x_lists.proofs.ListLemmas.{drop_one, drop_none}
use Rattle.x_schema.proofs.KeyedTables.{enumerators_more}
use Rattle.x_schema.proofs.constants.Constants.enumerators.Goals as goal

pub loop-enumerator-preserved : goal.loop-enumerator-preserved
loop-enumerator-preserved c =
    let i = c.loop-enumerator.enumerator-index in
    let es = c.args.enumerators.now in
    let item = c.enumerator-item.result in
    let rest = drop (i + 1) es in
    let front : drop i es ≡ item ∷ rest = drop_one es i item c.loop-enumerator-test.true
    ∙ ap (λ x. x ∷ rest) (sym c.enumerator-item.is) in
    enumerators_more c.loop-enumerator.self c.add.new.self c.loop-enumerator.next c.number_given-number.result
    c.next_number-next.result (view_enumerator item) (map view_enumerator rest)
    c.number_given-number.ensures (rw c.deref.ensures at c.in_ok-add.ensures) c.next_number-next.ensures
    ∙ sym (ap (λ xs. with_enumerators c.loop-enumerator.self c.loop-enumerator.next (map view_enumerator xs))
    front) ∙ c.loop-enumerator.invariant

pub returns : goal.returns
returns c =
    sym (ap (λ xs. with_enumerators c.loop-enumerator.self c.loop-enumerator.next (map view_enumerator xs))
    (drop_none c.args.enumerators.now c.loop-enumerator.enumerator-index c.loop-enumerator-test.false))
    ∙ c.loop-enumerator.invariant
