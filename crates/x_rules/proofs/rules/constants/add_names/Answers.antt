use Rattle.std.proofs.Common.{◌≡◌, ◌+◌, ◌∷◌, drop, map, ap, refl, sym, subst, ◌∙◌}
use Rattle.std.proofs.lemmas.List.{drop_all, drop_more}
use Rattle.x_trees.specs.View.{view_enumerator}
use Rattle.x_trees.specs.Collected.{Walked}
use Rattle.x_trees.proofs.CollectLemmas.{finds_none}
use Rattle.x_outline.specs.Bodies.{EnumeratorAt}
use Rattle.x_outline.specs.Parts.{view_enumerator_at}
use Rattle.x_lists.proofs.ListLemmas.{map_append}
use Rattle.x_rules.proofs.EnumeratorLemmas.{GoesNames, goes_names}
use Rattle.x_rules.proofs.rules.constants.add_names.Goals as goal

pub loop-enumerator-init : goal.loop-enumerator-init
loop-enumerator-init c to h = h

pub loop-enumerator-preserved : goal.loop-enumerator-preserved
loop-enumerator-preserved c to h =
    let item = c.enumerator-item.result in
    let rest = drop (c.loop-enumerator.enumerator-index + 1) c.args.enumerators.now in
    let front : drop c.loop-enumerator.enumerator-index c.args.enumerators.now ≡ item ∷ rest =
    drop_more c.args.enumerators.now c.loop-enumerator.enumerator-index _ c.loop-enumerator-test.true
    ∙ ap (λ x. x ∷ rest) (sym c.enumerator-item.is) in
    let word = c.loop-enumerator.word in
    let is_first = c.loop-enumerator.is_first in
    let list = map view_enumerator_at c.loop-enumerator.list.items in
    let before : Walked EnumeratorAt = record { word = word; list = list } in
    let x : EnumeratorAt =
    record {
      word = word;
      name = item.name.items;
      given = (view_enumerator item).value;
      is_first = is_first;
    } in
    c.loop-enumerator.invariant to
    (subst (λ xs. GoesNames before to is_first (map view_enumerator xs)) (sym front)
    (goes_names word c.saturating_add-word.result c.words_of_enumerator.result list
    (map view_enumerator_at c.push.new.self.items) x (view_enumerator item) (map view_enumerator rest) refl
    c.words_of_enumerator.ensures (rw c.saturating_add.ensures at c.saturating_add-word.ensures)
    (ap (map view_enumerator_at) c.in_ok-push.ensures.items
    ∙ map_append view_enumerator_at c.loop-enumerator.list.items _) h))

pub returns : goal.returns
returns c =
    let here : Walked EnumeratorAt =
    record { word = c.loop-enumerator.word; list = map view_enumerator_at c.loop-enumerator.list.items } in
    (c.loop-enumerator.invariant here
    (subst (λ xs. GoesNames here here c.loop-enumerator.is_first (map view_enumerator xs))
    (sym (drop_all _ _ c.loop-enumerator-test.false)) (finds_none here))).list
