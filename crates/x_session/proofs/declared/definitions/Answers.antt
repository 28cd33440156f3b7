use Rattle.std.proofs.Common.{◌+◌, map, refl, ap, sym, subst, ◌∙◌}
use Rattle.x_trees.specs.View.{tree_at}
use Rattle.x_compile.specs.Compile.{Item, parsed_definition}
use Rattle.x_session.proofs.DeclaredLemmas.{HasTold, map-snoc, of_each, told_all, told_more}
use Rattle.x_session.proofs.declared.definitions.Goals as goal

pub loop-item-preserved : goal.loop-item-preserved
loop-item-preserved c =
    let text = c.args.session.now.text in
    let n = c.loop-item.item in
    let told = λ (i : Item). parsed_definition i.parse in
    subst (HasTold told c.args.session.now.known text (n + 1))
    (sym (ap (map tree_at) c.in_ok-push.ensures.items
    ∙ map-snoc tree_at c.loop-item.list.items c.definition.result))
    (told_more told text n (n + 1) c.item_count-item-end.result (map tree_at c.loop-item.list.items)
    (tree_at c.definition.result) refl c.loop-item-test.true c.item_count-item-end.ensures
    c.loop-item.invariant
    (λ tokens items i is here def. of_each text c.definition.ensures tokens items is ∙ def))

pub returns : goal.returns
returns c = told_all (λ (i : Item). parsed_definition i.parse) c.args.session.now.text c.loop-item.item
    c.item_count-item-end.result (map tree_at c.loop-item.list.items) c.loop-item-test.false
    c.item_count-item-end.ensures c.loop-item.invariant
