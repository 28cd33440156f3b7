use Rattle.std.proofs.Common.{◌≡◌, ◌+◌, ◌<◌, ◌≤◌, ◌^◌, None, Some, length, map, refl, sym, subst, arith}
use Rattle.std.specs.Cow.{cow_slice_items}
use Rattle.x_trees.specs.View.{tree_at, view_definition}
use Rattle.x_compile.specs.Compile.{definition_at}
use Rattle.x_session.specs.Session.{Compiles}
use Rattle.x_session.proofs.DeclaredLemmas.{short_at}
use Rattle.x_explain.proofs.SuggestionLemmas.{HasNames, mapped_many, names_all, names_full, names_more}
use Rattle.x_explain.proofs.SuggestionLemmas.{names_passed, only_none}
use Rattle.x_explain.proofs.suggestions.compared_names.Goals as goal
use Rattle.x_explain.proofs.suggestions.compared_names.Goals.{in-Some+in_ok-add_names, in_default}

pub returns-then-len-ge-MOST_NAMES : goal.returns-then-len-ge-MOST_NAMES
returns-then-len-ge-MOST_NAMES c =
    let full = c.if-len-ge-MOST_NAMES.true in
    let many = c.len.ensures in
    let same = mapped_many c.loop-item.names.items in
    names_full c.args.session.now.text c.loop-item.item (map cow_slice_items c.loop-item.names.items)
    (omega (arith, full, many, same)) c.loop-item.invariant

pub loop-item-preserved : goal.loop-item-preserved
loop-item-preserved c =
    let known = c.args.session.now.known in
    let text = c.args.session.now.text in
    let n = c.loop-item.item in
    let count = c.item_count-item-end.result in
    let lt : n < count = c.loop-item-test.true in
    let names = map cow_slice_items c.loop-item.names.items in
    let had = c.loop-item.invariant in
    let few = had.few in
    let same = mapped_many c.loop-item.names.items in
    let fits : c.token_count.result < 2 ^ 64 = omega arith in
    elim c.match-definition.branch [
      | in-Some+in_ok-add_names w ↦
          let d = view_definition w.in-Some.definition.now in
          let defined : Compiles known text (λ items. Some d ≡ definition_at items n) =
          subst (λ r. Compiles known text (λ items. tree_at r ≡ definition_at items n)) w.in-Some.is
          c.definition.ensures in
          let short =
          short_at text had.tokens had.items n count c.token_count.result d lt fits had.compiles
          c.item_count-item-end.ensures c.token_count.ensures defined in
          let added = w.in_ok-add_names.ensures short (omega (arith, few, same)) in
          let new = w.add_names.new.names.items in
          let many = added.0 in
          let long = mapped_many new in
          subst (λ v. HasNames known text (n + 1) (map cow_slice_items v.items)) (sym w.names-is)
          (names_more text n (n + 1) count (Some d) names (map cow_slice_items new) refl lt
          c.item_count-item-end.ensures defined had (omega (arith, many, long)) added.1)
      | in_default w ↦
          let defined : Compiles known text (λ items. None ≡ definition_at items n) =
          subst (λ r. Compiles known text (λ items. tree_at r ≡ definition_at items n))
          (only_none _ w.in_default.not-Some) c.definition.ensures in
          subst (λ v. HasNames known text (n + 1) (map cow_slice_items v.items)) (sym w.names-is)
          (names_passed text n (n + 1) count names refl lt c.item_count-item-end.ensures defined had)
    ]

pub returns : goal.returns
returns c =
    names_all c.args.session.now.text c.loop-item.item c.item_count-item-end.result
    (map cow_slice_items c.loop-item.names.items) c.loop-item-test.false c.item_count-item-end.ensures
    c.loop-item.invariant
