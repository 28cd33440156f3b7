use Rattle.std.proofs.Common.{◌≡◌, ◌≤◌, ◌<◌, true, None, map, length, refl, ap, sym, subst, ◌∙◌, arith}
use Rattle.std.specs.Prelude.{All}
use Rattle.std.proofs.lemmas.List.{length-map}
use Rattle.std.proofs.lemmas.List.Elements.{All-nil, All-push}
use Rattle.x_text.specs.declared.text.source.TheConstants.{MAX_TEXT}
use Rattle.x_lex.specs.Places.{lexeme, lexemes}
use Rattle.x_cutting.specs.Items.{IsNext}
use Rattle.x_cutting.specs.declared.cutting.item_entry.ItemEntry.{ItemEntry}
use Rattle.x_compile.specs.KeptView.{IsItem, byte_count, kept_found}
use Rattle.x_compile.specs.declared.content.Content.{Content}
use Rattle.x_compile.proofs.ItemLemmas.{Parsing, HasCounted, steps_left, parsing_none, parsing_more}
use Rattle.x_compile.proofs.ItemLemmas.{part_short, rest_short, fewer_steps, items_of_text, short_items}
use Rattle.x_compile.proofs.ItemLemmas.{some_items, counted_push, counted_all}
use Rattle.x_compile.proofs.WalkedItems.{bytes_of_all, bytes_of_part, bytes_of_rest}
use Rattle.x_compile.proofs.parsing.parse_items.Goals as goal

pub loop-whole-init : goal.loop-whole-init
loop-whole-init c =
    let all = lexemes c.args.source.now c.args.tokens.now.list in
    let short : length all ≤ MAX_TEXT =
    subst (λ l. length l ≤ MAX_TEXT) c.iter-walk.ensures.tokens c.iter-walk.ensures.small in
    record {
      parsed = subst (λ is. Parsing true all c.iter-walk.result is) (sym c.new-entries.ensures.items)
          (parsing_none all c.iter-walk.result c.iter-walk.ensures.tokens);
      short = short;
      small = c.iter-walk.ensures.small;
      bytes = (let b = ap byte_count c.iter-walk.ensures.tokens
          ∙ bytes_of_all c.args.source.now c.args.tokens.now.list c.requires in
          let m = c.bytes-text.ensures.small in omega (arith, b, m));
      unchecked = subst (λ is. All (λ e. kept_found e.kept ≡ None) is) (sym c.new-entries.ensures.items)
          (All-nil (λ (e : ItemEntry Content). kept_found e.kept ≡ None));
      counted = subst (λ is. HasCounted c.args.meter.now c.args.meter.now (length is))
          (sym c.new-entries.ensures.items) refl;
    }

pub entry_of-requires-clause-few : goal.entry_of-requires-clause-few
entry_of-requires-clause-few c =
    let next : IsNext c.in_ok-whole.whole c.loop-whole.walk (map lexeme c.next_item.new.tokens.items)
    c.next_item.new.walk = c.in_ok-whole.ensures in
    let fewer = part_short c.in_ok-whole.whole c.loop-whole.walk (map lexeme c.next_item.new.tokens.items)
    c.next_item.new.walk next in
    let same = length-map c.next_item.new.tokens.items lexeme in
    let value = ap length c.deref.ensures.value in
    let small = c.loop-whole.invariant.small in
    omega (arith, fewer, same, value, small)

pub entry_of-requires-clause-small : goal.entry_of-requires-clause-small
entry_of-requires-clause-small c =
    let fewer = bytes_of_part c.in_ok-whole.whole c.loop-whole.walk (map lexeme c.next_item.new.tokens.items)
    c.next_item.new.walk c.in_ok-whole.ensures in
    let value = ap (λ ts. byte_count (map lexeme ts)) c.deref.ensures.value in
    let small = c.loop-whole.invariant.bytes in
    omega (arith, fewer, value, small)

pub loop-whole-smaller : goal.loop-whole-smaller
loop-whole-smaller c =
    subst (λ b. steps_left c.in_ok-whole.whole c.next_item.new.walk < steps_left b c.loop-whole.walk)
    (sym c.loop-whole-test.true)
    (fewer_steps c.in_ok-whole.whole c.loop-whole.walk (map lexeme c.next_item.new.tokens.items)
    c.next_item.new.walk c.in_ok-whole.ensures)

pub loop-whole-preserved : goal.loop-whole-preserved
loop-whole-preserved c =
    let all = lexemes c.args.source.now c.args.tokens.now.list in
    let whole = c.in_ok-whole.whole in
    let part = map lexeme c.next_item.new.tokens.items in
    let left = c.next_item.new.walk in
    let items = c.loop-whole.entries.items in
    let item = c.in_ok-entry_of.field-0 in
    let next : IsNext whole c.loop-whole.walk part left = c.in_ok-whole.ensures in
    let before : Parsing true all c.loop-whole.walk items = subst (λ b. Parsing b all c.loop-whole.walk items)
    c.loop-whole-test.true c.loop-whole.invariant.parsed in
    let this : IsItem part item =
    subst (λ ts. IsItem (map lexeme ts) item) c.deref.ensures.value c.in_ok-entry_of.ensures.item in
    let fewer = rest_short whole c.loop-whole.walk part left next in
    let small = c.loop-whole.invariant.small in
    let less = bytes_of_rest whole c.loop-whole.walk part left next in
    let bytes = c.loop-whole.invariant.bytes in
    record {
      parsed = subst (λ is. Parsing whole all left is) (sym c.in_ok-push.ensures.items)
          (parsing_more whole all c.loop-whole.walk part left items item before next this);
      short = c.loop-whole.invariant.short;
      small = omega (arith, fewer, small);
      bytes = omega (arith, less, bytes);
      unchecked = subst (λ is. All (λ e. kept_found e.kept ≡ None) is) (sym c.in_ok-push.ensures.items)
          (All-push (λ (e : ItemEntry Content). kept_found e.kept ≡ None) items item
          c.loop-whole.invariant.unchecked c.in_ok-entry_of.ensures.unchecked);
      counted = subst (λ is. HasCounted c.args.meter.now c.entry_of.new.meter (length is))
          (sym c.in_ok-push.ensures.items)
          (counted_push c.args.meter.now c.loop-whole.meter c.entry_of.new.meter items item
          c.loop-whole.invariant.counted c.in_ok-entry_of.ensures.counted);
    }

pub returns-clause-parsed : goal.returns-clause-parsed
returns-clause-parsed c =
    subst (λ b. Parsing b (lexemes c.args.source.now c.args.tokens.now.list) c.loop-whole.walk
    c.loop-whole.entries.items) c.loop-whole-test.false c.loop-whole.invariant.parsed

pub returns-clause-of_text : goal.returns-clause-of_text
returns-clause-of_text c = items_of_text (lexemes c.args.source.now c.args.tokens.now.list)
    c.loop-whole.entries.items (returns-clause-parsed c) c.loop-whole.invariant.short

pub returns-clause-counted : goal.returns-clause-counted
returns-clause-counted c =
    counted_all c.args.meter.now c.loop-whole.meter (length c.loop-whole.entries.items)
    (some_items (lexemes c.args.source.now c.args.tokens.now.list) c.loop-whole.entries.items
    (returns-clause-parsed c)) c.loop-whole.invariant.counted

pub returns-clause-short : goal.returns-clause-short
returns-clause-short c = short_items (lexemes c.args.source.now c.args.tokens.now.list)
    c.loop-whole.entries.items (returns-clause-parsed c) c.loop-whole.invariant.short

pub returns-clause-unchecked : goal.returns-clause-unchecked
returns-clause-unchecked c = c.loop-whole.invariant.unchecked
