use Rattle.std.proofs.Common.{◌+◌, ◌∙◌, map, refl, subst, sym}
use Rattle.x_item.specs.Parse.{IsParse}
use Rattle.x_lex.specs.Places.{lexeme}
use Rattle.x_trees.specs.View.{tree_at}
use Rattle.x_names.specs.DeclarerTable.{first_in}
use Rattle.x_session.proofs.ItemWalking.{walked_all, walked_item, walked_none}
use Rattle.x_contents.specs.Reading.{told_of}
use Rattle.x_contents.specs.Tokens.{with_item_tokens}
use Rattle.x_contents.proofs.tokens.ToldTokens.add_items.Goals as goal

pub loop-item-init : goal.loop-item-init
loop-item-init c =
    let step = with_item_tokens c.args.self.now.places.encoding c.args.shown.now
    (first_in c.args.names.now) in
    record {
      walked = walked_none c.args.session.now.text step
          (told_of c.args.self.now) c.tokens-walk.result c.tokens-walk.ensures;
      places = refl;
    }

pub loop-item-preserved : goal.loop-item-preserved
loop-item-preserved c =
    let s = c.args.session.now in
    let first = first_in c.args.names.now in
    let shown = c.args.shown.now in
    let step = with_item_tokens c.args.self.now.places.encoding shown first in
    let part = map lexeme c.next_item.new.tokens.items in
    let old = told_of c.loop-item.self in
    let o = tree_at c.definition-definition.result in
    record {
      walked = walked_item s.text step (told_of c.args.self.now) c.loop-item.item
          (c.loop-item.item + 1) c.item_count-item-end.result c.in_ok-next_item.field-0 c.loop-item.walk
          c.next_item.new.walk part old (told_of c.add_item.new.self) o
          refl c.loop-item-test.true c.item_count-item-end.ensures c.definition-definition.ensures
          c.loop-item.invariant.walked c.in_ok-next_item.ensures
          (λ parse parsed is. c.in_ok-add_item.ensures.told parse
          (subst (λ l. IsParse (map lexeme l) parse) (sym c.deref.ensures.value) parsed) is
          ∙ (λ k. with_item_tokens (c.loop-item.invariant.places k).encoding shown first old
          (map lexeme (c.deref.ensures.value k)) o));
      places = c.add_item.ensures.places ∙ c.loop-item.invariant.places;
    }

pub returns : goal.returns
returns c =
    let step = with_item_tokens c.args.self.now.places.encoding c.args.shown.now
    (first_in c.args.names.now) in
    walked_all c.args.session.now.text step
    (told_of c.args.self.now) c.loop-item.item c.item_count-item-end.result c.loop-item.walk
    (told_of c.loop-item.self) c.loop-item-test.false c.item_count-item-end.ensures
    c.loop-item.invariant.walked
