use Rattle.std.proofs.Common.{◌≡◌, length, map, ap, subst, sym, ◌∙◌, arith}
use Rattle.x_streams.specs.Counters.{raised}
use Rattle.x_trees.specs.View.{tree_at}
use Rattle.x_cutting.specs.ItemList as items
use Rattle.x_recheck.specs.Editing.{IsEdit}
use Rattle.x_uses.specs.Occurrences.{IsUsesOf}
use Rattle.x_recheck.specs.Staleness.{IsRecheck}
use Rattle.x_follow.specs.Following.{AreStaleChecked, AreUsed, edit_of}
use Rattle.x_follow.specs.Rendered.{AreRenderings}
use Rattle.x_compile.specs.Known.{known_names}
use Rattle.x_compile.proofs.KeptLemmas.{made_patched}
use Rattle.x_follow.proofs.StaleLemmas.{edit_is, have_definitions, if_ok, is_edit, rendered_long}
use Rattle.x_follow.proofs.StaleLemmas.{stale_checked}
use Rattle.x_follow.proofs.stale.check_stale_items.Goals as goal
use Rattle.x_follow.proofs.stale.check_stale_items.Goals.{In_ok-stale}

pub recheck-requires-clause-edit : goal.recheck-requires-clause-edit
recheck-requires-clause-edit c =
    let es = c.args.items.now.entries.list in
    let p = c.args.patch.now in
    let small = c.len-counted.ensures.small in
    let count = c.len-counted.ensures.count in
    subst IsEdit (sym (edit_is (known_names c.args.known.now) es p c.args.names.now
    (map tree_at c.args.put.now) c.requires.names c.requires.put))
    (is_edit (known_names c.args.known.now) es p c.requires.among (omega (arith, small, count))
    c.requires.of_text_behind c.requires.checked.results c.requires.checked.short c.requires.short)

pub recheck-requires-clause-uses : goal.recheck-requires-clause-uses
recheck-requires-clause-uses c =
    subst (AreUsed c.args.items.now.entries.list) c.in-Some.is c.requires.checked.uses

pub recheck-requires-clause-fresh : goal.recheck-requires-clause-fresh
recheck-requires-clause-fresh c = subst (λ ds. IsUsesOf ds c.args.names.now.fresh) (sym c.requires.put)
    c.requires.names.fresh

rechecked : (c : In_ok-stale)
    → IsRecheck (edit_of (known_names c.args.known.now) c.args.items.now.entries.list c.args.patch.now)
    c.in_ok-stale.stale.items
rechecked c =
    subst (λ e. IsRecheck e c.in_ok-stale.stale.items)
    (edit_is (known_names c.args.known.now) c.args.items.now.entries.list c.args.patch.now c.args.names.now
    (map tree_at c.args.put.now) c.requires.names c.requires.put) c.in_ok-stale.ensures.rechecked

pub render_all-requires-clause-made : goal.render_all-requires-clause-made
render_all-requires-clause-made c =
    made_patched c.args.items.now.entries.list c.args.patch.now c.requires.checked.sound c.requires.unchecked

pub render_all-requires-clause-defined : goal.render_all-requires-clause-defined
render_all-requires-clause-defined c = have_definitions (known_names c.args.known.now)
    c.args.items.now.entries.list c.args.patch.now c.in_ok-stale.stale.items (rechecked c)

pub returns-clause-stale : goal.returns-clause-stale
returns-clause-stale c =
    let es = c.args.items.now.entries.list in
    let p = c.args.patch.now in
    let rs = c.in_ok-stale.stale.items in
    let is = subst (λ e. IsRecheck e rs)
    (edit_is (known_names c.args.known.now) es p c.args.names.now (map tree_at c.args.put.now)
    c.requires.names c.requires.put) c.in_ok-stale.ensures.rechecked in
    if_ok c.render_all.result (λ found. AreRenderings (items.kept (items.patched es p)) rs found.items)
    (λ found. AreStaleChecked (known_names c.args.known.now) es p found.items)
    (λ found are. stale_checked (known_names c.args.known.now) es p rs found.items c.requires.among is are
    c.requires.checked.sound c.requires.unchecked) c.render_all.ensures

pub returns-clause-counted : goal.returns-clause-counted
returns-clause-counted c =
    let es = c.args.items.now.entries.list in
    let p = c.args.patch.now in
    let ks = items.kept (items.patched es p) in
    let rs = c.in_ok-stale.stale.items in
    let old = c.args.meter.now in
    if_ok c.render_all.result (λ found. AreRenderings ks rs found.items)
    (λ found. c.recheck.new.meter ≡ record old { checked = raised old.checked (length found.items) })
    (λ found are. c.in_ok-stale.ensures.counted ∙ ap (λ n. record old { checked = raised old.checked n })
    (sym (rendered_long ks rs found.items are))) c.render_all.ensures
