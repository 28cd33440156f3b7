use Rattle.std.proofs.Common.{◌≡◌, ◌+◌, ◌∙◌, ap, map, refl, subst, sym}
use Rattle.x_lex.specs.Places.{lexeme}
use Rattle.x_trees.specs.View.{tree_at}
use Rattle.x_session.proofs.ItemWalking.{HasWalked, walked_all, walked_item, walked_none}
use Rattle.x_frames.specs.ListTexts.{ended}
use Rattle.x_contents.specs.Kept.{spelt}
use Rattle.x_contents.specs.Symbols.{token_range}
use Rattle.x_contents.specs.SymbolTexts.{no_text, with_text}
use Rattle.x_contents.proofs.SymbolLemmas.{item_text, symbols_text}
use Rattle.x_contents.proofs.symbols.symbols.Goals as goal

pub loop-item-init : goal.loop-item-init
loop-item-init c =
    let s = c.args.session.now in
    let step = item_text c.args.encoding c.args.shown.now in
    record {
      walked = subst (HasWalked s.known s.text step no_text 0 c.tokens-walk.result)
          (sym c.in_ok-text.ensures)
          (walked_none s.text step no_text c.tokens-walk.result c.tokens-walk.ensures);
      places = c.of-places.ensures ∙ ap (λ t. record
          { encoding = c.args.encoding; text = t }) c.bytes.ensures.text;
    }

pub loop-item-preserved : goal.loop-item-preserved
loop-item-preserved c =
    let s = c.args.session.now in
    let e = c.args.encoding in
    let shown = c.args.shown.now in
    let part = map lexeme c.next_item.new.tokens.items in
    let told = spelt c.loop-item.text in
    let o = tree_at c.definition-definition.result in
    let places_is = c.loop-item.invariant.places in
    let ranges_is : c.put_ranges.new.ranges.items ≡ map
    (token_range e shown) part = c.in_ok-put_ranges.ensures.ranges
    ∙ (λ k. map (token_range (places_is k).encoding (places_is k).text)
    (map lexeme (c.deref.ensures.value k))) in
    let more : spelt c.write_parsed.new.text ≡ with_text told part
    (map (token_range e shown) part) o = c.in_ok-write_parsed.ensures
    ∙ (λ k. with_text told (map lexeme (c.deref-in-loop-item.ensures.value k))
    ((c.deref-in-loop-item-2.ensures.value ∙ ranges_is) k) o) in
    record {
      walked = walked_item s.text (item_text e shown) no_text c.loop-item.item
          (c.loop-item.item + 1) c.item_count-item-end.result c.in_ok-next_item.field-0 c.loop-item.walk
          c.next_item.new.walk part told (spelt c.write_parsed.new.text) o
          refl c.loop-item-test.true c.item_count-item-end.ensures c.definition-definition.ensures
          c.loop-item.invariant.walked c.in_ok-next_item.ensures (λ parse parsed is. more);
      places = c.put_ranges.ensures.same ∙ places_is;
    }

pub returns : goal.returns
returns c =
    let all = walked_all c.args.session.now.text
    (item_text c.args.encoding c.args.shown.now) no_text c.loop-item.item c.item_count-item-end.result
    c.loop-item.walk (spelt c.loop-item.text) c.loop-item-test.false c.item_count-item-end.ensures
    c.loop-item.invariant.walked in (
      all.0,
      all.1,
      all.2,
      c.in_ok-end_list.ensures ∙ ap ended all.3
          ∙ symbols_text c.args.encoding c.args.shown.now all.1,
    )
