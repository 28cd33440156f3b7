use Rattle.std.proofs.Common.{◌≡◌, ◌++◌, map, take, ap, ◌∙◌, arith}
use Rattle.std.specs.Cow.{cow_slice_items}
use Rattle.x_trees.specs.Names.{declared}
use Rattle.x_trees.specs.View.{view_definition}
use Rattle.x_explain.proofs.SuggestionLemmas.{all_taken, bare, bare_is, mapped_many, no_more, one_passed}
use Rattle.x_explain.proofs.SuggestionLemmas.{take_front}
use Rattle.x_explain.proofs.suggestions.add_names.Goals as goal

pub returns-then-len-ge-MOST_NAMES : goal.returns-then-len-ge-MOST_NAMES
returns-then-len-ge-MOST_NAMES c short few =
    let names = map cow_slice_items c.args.names.now.items in
    let full = c.if-len-ge-MOST_NAMES.true in
    let many = c.len.ensures in
    let same = mapped_many c.args.names.now.items in (
      few,
      take_front names (map (λ n. n.name) (declared (view_definition c.args.definition.now))) 1024
          (omega (arith, full, many, same, few)),
    )

pub loop-declared-preserved-else-len-lt-MOST_NAMES : goal.loop-declared-preserved-else-len-lt-MOST_NAMES
loop-declared-preserved-else-len-lt-MOST_NAMES c few =
    let so = c.loop-declared.invariant few in
    let names = map cow_slice_items c.loop-declared.names.items in
    let full = c.if-len-lt-MOST_NAMES.false in
    let many = c.len-in-loop-declared.ensures in
    let same = mapped_many c.loop-declared.names.items in (
      so.0,
      one_passed 1024 names (bare c.loop-declared.declared-iterator.rest.items)
          (bare c.next.new.self.rest.items)
          (take 1024 (map cow_slice_items c.args.names.now.items
          ++ bare c.into_iter-declared-iterator.result.rest.items)) (omega (arith, full, many, same)) so.1,
    )

pub loop-declared-preserved : goal.loop-declared-preserved
loop-declared-preserved c few =
    let so = c.loop-declared.invariant few in
    let names = map cow_slice_items c.loop-declared.names.items in
    let full = c.if-len-lt-MOST_NAMES.false in
    let many = c.len-in-loop-declared.ensures in
    let same = mapped_many c.loop-declared.names.items in (
      so.0,
      one_passed 1024 names (bare c.loop-declared.declared-iterator.rest.items)
          (bare c.next.new.self.rest.items)
          (take 1024 (map cow_slice_items c.args.names.now.items
          ++ bare c.into_iter-declared-iterator.result.rest.items)) (omega (arith, full, many, same)) so.1,
    )

pub returns : goal.returns
returns c short few =
    let so = c.loop-declared.invariant few in
    let names = map cow_slice_items c.loop-declared.names.items in
    let same = mapped_many c.loop-declared.names.items in
    let bound = so.0 in
    let old = map cow_slice_items c.args.names.now.items in
    let all = c.into_iter-declared-iterator.result.rest.items in
    let left = c.loop-declared.declared-iterator.rest in
    let none = ap bare (no_more left.items left.len left.ok.0 c.in-None.ensures.steps.0) in
    let is = all_taken 1024 names (bare left.items) (take 1024 (old ++ bare all)) none
    (omega (arith, same, bound)) so.1 in
    let gives : all ≡ c.in_ok-declared-items.declared-items.items =
    c.into_iter-declared-iterator.ensures.into_iter_gives.0 in
    let declared_is = bare_is c.in_ok-declared-items.declared-items.items
    (declared (view_definition c.args.definition.now)) (c.in_ok-declared-items.ensures short) in
    (so.0, is ∙ ap (λ l. take 1024 (old ++ l)) (ap bare gives ∙ declared_is))
