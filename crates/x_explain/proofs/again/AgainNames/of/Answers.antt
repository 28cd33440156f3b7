use Rattle.std.proofs.Common.{◌≡◌, suc, ◌-◌, ◌<◌, ◌^◌, Some, [], drop, ap, sym, ◌∙◌, arith}
use Rattle.std.specs.Option.{option_or}
use Rattle.x_trees.specs.View.{tree_at, view_definition}
use Rattle.x_compile.specs.Compile.{definition_at}
use Rattle.x_session.specs.Session.{Compiles}
use Rattle.x_explain.specs.AgainNames.{again_among, again_from, again_in, entry_at, name_at}
use Rattle.x_session.proofs.DeclaredLemmas.{none_is, short_at}
use Rattle.x_explain.proofs.AgainLemmas.{item_before, none_behind}
use Rattle.x_session.proofs.DeclaredLemmas.{of_each}
use Rattle.x_explain.proofs.again.AgainNames.of.Goals as goal

pub loop-item-init : goal.loop-item-init
loop-item-init c = λ tokens items is start.
    ap (λ es. entry_at es start) c.with_hasher-table.ensures.empty
    ∙ none_behind c.args.session.now.text tokens items c.item_count-item.result start is
    c.item_count-item.ensures

pub loop-item-preserved-in-Continue-branch-2 : goal.loop-item-preserved-in-Continue-branch-2
loop-item-preserved-in-Continue-branch-2 c = λ tokens items is start.
    let text = c.args.session.now.text in
    let later = c.loop-item.item in
    let item = later - 1 in
    let count = c.item_count-item.result in
    let all = c.token_count.result in
    let definition = view_definition c.in-Some.definition.now in
    let some = c.loop-item-test.true in
    let last = c.loop-item.auto.item in
    let next : later ≡ suc item = omega (arith, some) in
    let inside : item < count = omega (arith, some, last) in
    let few : all < 2 ^ 64 = omega arith in
    let found : Compiles c.args.session.now.known text
    (λ items. Some definition ≡ definition_at items item) = (
      c.definition.ensures.0,
      c.definition.ensures.1,
      c.definition.ensures.2,
      sym (ap tree_at c.in-Some.is) ∙ c.definition.ensures.3,
    ) in
    let short = short_at text tokens items item count all definition inside few is c.item_count-item.ensures
    c.token_count.ensures found in
    let table = of_each text c.requires tokens items is in
    item_before text tokens items item later count (Some definition)
    (entry_at c.loop-item.table.entries start) (entry_at c.add.new.table.entries start) start
    next inside is c.item_count-item.ensures found (c.loop-item.invariant tokens items is start)
    (c.in_ok-add.ensures text items table start
    ∙ ap (λ ds. option_or (name_at (again_among items item [] ds) start)
    (entry_at c.loop-item.table.entries start)) (c.in_ok-read.ensures.declared short))

pub loop-item-preserved : goal.loop-item-preserved
loop-item-preserved c = λ tokens items is start.
    let later = c.loop-item.item in
    let item = later - 1 in
    let some = c.loop-item-test.true in
    let last = c.loop-item.auto.item in
    let next : later ≡ suc item = omega (arith, some) in
    let inside : item < c.item_count-item.result = omega (arith, some, last) in
    let before = entry_at c.loop-item.table.entries start in
    item_before c.args.session.now.text tokens items item later c.item_count-item.result
    (tree_at c.definition.result) before before start
    next inside is c.item_count-item.ensures c.definition.ensures
    (c.loop-item.invariant tokens items is start)
    (ap (λ o. option_or (name_at (again_in items item (tree_at o)) start) before)
    (sym (none_is c.definition.result c.in_default.not-Some)))

pub returns : goal.returns
returns c =
    let k = c.requires in
    let test = c.loop-item-test in
    let first : c.loop-item.item ≡ 0 = omega (arith, test.false) in (
      k.0,
      k.1,
      k.2,
      λ start. c.loop-item.invariant k.0 k.1 k.2 start
          ∙ ap (λ n. name_at (again_from k.1 n (drop n k.1)) start) first,
    )
