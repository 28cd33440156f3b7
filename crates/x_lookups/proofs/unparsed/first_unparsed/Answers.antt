use Rattle.std.proofs.Common.{◌+◌, map, refl, ap, sym, subst, ◌∙◌}
use Rattle.std.specs.Prelude.{option_map}
use Rattle.x_lex.specs.Places.{lexeme}
use Rattle.x_trees.specs.View.{tree_at}
use Rattle.x_item.specs.Parse.{IsParse}
use Rattle.x_lookups.specs.NamePlaces.{first_of}
use Rattle.x_lookups.specs.Unparsed.{is_wanted, unparsed_in}
use Rattle.x_lookups.proofs.UnparsedLemmas.{found_here, none_at_all, none_more, none_yet}
use Rattle.x_lookups.proofs.unparsed.first_unparsed.Goals as goal

pub loop-item-init : goal.loop-item-init
loop-item-init c = none_yet c.args.session.now.text (is_wanted c.args.wanted) c.tokens-walk.result
    c.tokens-walk.ensures

pub loop-item-preserved : goal.loop-item-preserved
loop-item-preserved c =
    let test = is_wanted c.args.wanted in
    let part = map lexeme c.next_item.new.tokens.items in
    let o = tree_at c.definition.result in
    none_more c.args.session.now.text test c.loop-item.item (c.loop-item.item + 1)
    c.item_count-item-end.result c.in_ok-next_item.field-0 c.loop-item.walk c.next_item.new.walk part o
    refl c.loop-item-test.true c.item_count-item-end.ensures c.definition.ensures c.loop-item.invariant
    c.in_ok-next_item.ensures
    (λ parse parsed is. ap (option_map lexeme) (sym c.in_default.is)
    ∙ c.first_in_item.ensures parse
    (subst (λ ts. IsParse (map lexeme ts) parse) (sym c.deref.ensures.value) parsed) is
    ∙ ap (λ ts. first_of (unparsed_in test (map lexeme ts) parse)) c.deref.ensures.value)

pub returns-in-Some : goal.returns-in-Some
returns-in-Some c =
    let test = is_wanted c.args.wanted in
    let part = map lexeme c.next_item.new.tokens.items in
    let o = tree_at c.definition.result in
    found_here c.args.session.now.text test c.loop-item.item c.item_count-item-end.result
    c.in_ok-next_item.field-0 c.loop-item.walk c.next_item.new.walk part o (lexeme c.in-Some.token)
    c.loop-item-test.true c.item_count-item-end.ensures c.definition.ensures c.loop-item.invariant
    c.in_ok-next_item.ensures
    (λ parse parsed is. ap (option_map lexeme) (sym c.in-Some.is)
    ∙ c.first_in_item.ensures parse
    (subst (λ ts. IsParse (map lexeme ts) parse) (sym c.deref.ensures.value) parsed) is
    ∙ ap (λ ts. first_of (unparsed_in test (map lexeme ts) parse)) c.deref.ensures.value)

pub returns : goal.returns
returns c = none_at_all c.args.session.now.text (is_wanted c.args.wanted) c.loop-item.item
    c.item_count-item-end.result c.loop-item.walk c.loop-item-test.false c.item_count-item-end.ensures
    c.loop-item.invariant
