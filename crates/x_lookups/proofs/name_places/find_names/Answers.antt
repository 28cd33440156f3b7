use Rattle.std.proofs.Common.{◌≡◌, ◌+◌, ◌++◌, [], Some, map, refl, ap, sym, subst, ◌∙◌}
use Rattle.std.proofs.lemmas.List.{append-nil}
use Rattle.x_lex.specs.Places.{lexeme}
use Rattle.x_trees.specs.View.{tree_at, view_definition}
use Rattle.x_lookups.specs.NamePlaces.{names_by, tokens_where}
use Rattle.x_lookups.specs.Sought.{is_sought}
use Rattle.x_session.proofs.ItemWalking.{HasWalked, walked_item, walked_none}
use Rattle.x_lookups.proofs.NamePlaceLemmas.{found_all, found_by, names_without}
use Rattle.x_lookups.proofs.name_places.find_names.Goals as goal
use Rattle.x_lookups.proofs.name_places.find_names.Goals.{in-Some+in_ok-add_names, in_default}

pub loop-item-init : goal.loop-item-init
loop-item-init c =
    subst (HasWalked c.args.session.now.known c.args.session.now.text (found_by (is_sought c.args.sought)) []
    0 c.tokens-walk.result) (sym (ap (map lexeme) c.new-found.ensures.items))
    (walked_none c.args.session.now.text (found_by (is_sought c.args.sought)) [] c.tokens-walk.result
    c.tokens-walk.ensures)

pub loop-item-preserved : goal.loop-item-preserved
loop-item-preserved c =
    let text = c.args.session.now.text in
    let test = is_sought c.args.sought in
    let part = map lexeme c.next_item.new.tokens.items in
    let old = map lexeme c.loop-item.found.items in
    let o = tree_at c.definition.result in
    elim c.match-definition.branch [
      | in-Some+in_ok-add_names w ↦
          let o_is : o ≡ Some (view_definition w.in-Some.definition.now) = ap tree_at w.in-Some.is in
          walked_item text (found_by test) [] c.loop-item.item (c.loop-item.item + 1)
          c.item_count-item-end.result c.in_ok-next_item.field-0 c.loop-item.walk c.next_item.new.walk part
          old (map lexeme c.match-definition.found.items) o
          refl c.loop-item-test.true c.item_count-item-end.ensures c.definition.ensures c.loop-item.invariant
          c.in_ok-next_item.ensures
          (λ parse parsed is. ap (λ v. map lexeme v.items) w.found-is
          ∙ w.in_ok-add_names.ensures parse parsed (sym o_is ∙ is)
          ∙ ap (λ x. old ++ tokens_where test (names_by part x)) (sym o_is))
      | in_default w ↦
          walked_item text (found_by test) [] c.loop-item.item (c.loop-item.item + 1)
          c.item_count-item-end.result c.in_ok-next_item.field-0 c.loop-item.walk c.next_item.new.walk part
          old (map lexeme c.match-definition.found.items) o
          refl c.loop-item-test.true c.item_count-item-end.ensures c.definition.ensures c.loop-item.invariant
          c.in_ok-next_item.ensures
          (λ parse parsed is. ap (λ v. map lexeme v.items) w.found-is ∙ sym (append-nil old)
          ∙ ap (λ l. old ++ l) (names_without test part o (ap tree_at w.in_default.is)))
    ]

pub returns : goal.returns
returns c =
    found_all c.args.session.now.text (is_sought c.args.sought) c.loop-item.item c.item_count-item-end.result
    c.loop-item.walk (map lexeme c.loop-item.found.items) c.loop-item-test.false c.item_count-item-end.ensures
    c.loop-item.invariant
