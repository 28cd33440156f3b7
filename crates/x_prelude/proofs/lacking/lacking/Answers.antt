use Rattle.std.proofs.Common.{◌≡◌, suc, ◌+◌, ◌<◌, ◌^◌, Some, [], map, take, ap, sym, subst, ◌∙◌, arith}
use Rattle.std.proofs.lemmas.List.{take_all}
use Rattle.x_trees.specs.View.{tree_at, view_definition}
use Rattle.x_names.specs.Declarers.{first_declarer}
use Rattle.x_names.specs.DeclarerTable.{first_in}
use Rattle.x_compile.specs.Compile.{definition_at, definitions_of}
use Rattle.x_compile.specs.Known.{known_names}
use Rattle.x_session.specs.Session.{Compiles}
use Rattle.x_session.proofs.DeclaredLemmas.{none_is, short_at}
use Rattle.x_prelude.specs.Lacking.{are_lacking, occurrences_from, occurrences_in}
use Rattle.x_prelude.specs.LackingTable.{HasNames, occurrence}
use Rattle.x_prelude.proofs.LackingLemmas.{item_more, nothing_more, uses_are}
use Rattle.x_prelude.proofs.lacking.lacking.Goals as goal
use Rattle.x_prelude.proofs.lacking.lacking.Goals.{in-Some+in_ok-read+in_ok-add, in_default}

pub loop-item-init : goal.loop-item-init
loop-item-init c = λ tokens items is. c.new-lacks.ensures

pub loop-item-preserved : goal.loop-item-preserved
loop-item-preserved c = λ tokens items is.
    let text = c.args.session.now.text in
    let known = known_names c.args.known.now in
    let first = first_in c.in_ok-names.names in
    let item = c.loop-item.item in
    let count = c.item_count-item-end.result in
    let names = c.loop-item.lacks in
    let next : item + 1 ≡ suc item = omega arith in
    let had = c.loop-item.invariant tokens items is in
    let after = are_lacking known (first_declarer (definitions_of items))
    (occurrences_from 0 (definitions_of (take (item + 1) items))) in
    elim c.match-definition.branch [
      | in-Some+in_ok-read+in_ok-add w ↦
          let definition = view_definition w.in-Some.definition.now in
          let few : c.token_count.result < 2 ^ 64 = omega arith in
          let found : Compiles c.args.session.now.known text
          (λ items. Some definition ≡ definition_at items item) = (
            c.definition.ensures.0,
            c.definition.ensures.1,
            c.definition.ensures.2,
            sym (ap tree_at w.in-Some.is) ∙ c.definition.ensures.3,
          ) in
          let short = short_at text tokens items item count c.token_count.result definition
          c.loop-item-test.true few is c.item_count-item-end.ensures c.token_count.ensures found in
          subst (λ t. HasNames t after) (sym w.lacks-is)
          (item_more known text tokens items item (item + 1) count (Some definition) first names
          w.add.new.self (map (occurrence item) w.deref.result.now)
          next c.loop-item-test.true is c.item_count-item-end.ensures found c.in_ok-names.ensures
          (ap (map (occurrence item)) w.deref.ensures.value
          ∙ uses_are item _ definition (w.in_ok-read.ensures.mentioned short))
          w.in_ok-add.ensures had)
      | in_default w ↦
          subst (λ t. HasNames t after) (sym w.lacks-is)
          (item_more known text tokens items item (item + 1) count (tree_at c.definition.result) first names
          names []
          next c.loop-item-test.true is c.item_count-item-end.ensures c.definition.ensures
          c.in_ok-names.ensures
          (sym (ap (λ o. occurrences_in item (tree_at o))
          (none_is c.definition.result w.in_default.not-Some)))
          (nothing_more known first names) had)
    ]

pub returns : goal.returns
returns c =
    let k = c.item_count-item-end.ensures in
    let items = k.1 in
    let last = c.loop-item-test.false in
    let count = k.3 in
    let all : take c.loop-item.item items ≡ items = take_all c.loop-item.item items
    (omega (arith, last, count)) in
    let first = first_declarer (definitions_of items) in (
      k.0,
      items,
      k.2,
      subst (λ is. HasNames c.loop-item.lacks (are_lacking (known_names c.args.known.now) first
          (occurrences_from 0 (definitions_of is)))) all (c.loop-item.invariant k.0 items k.2),
    )
