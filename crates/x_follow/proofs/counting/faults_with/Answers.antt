use Rattle.std.proofs.Common.{◌≡◌, ◌-◌, ◌+◌, [], length, Some, drop, ap, sym, ◌∙◌, arith}
use Rattle.std.specs.Prelude.{option_copied, slice_get}
use Rattle.std.proofs.lemmas.List.{drop_all, length-map}
use Rattle.x_cutting.specs.ItemList as items
use Rattle.x_cutting.specs.declared.cutting.item_entry.ItemEntry.{ItemEntry}
use Rattle.x_compile.specs.Compile.{faults_at}
use Rattle.x_compile.specs.Counting.{faults_found, faults_with}
use Rattle.x_compile.specs.KeptView.{kept_parse}
use Rattle.x_follow.specs.Planned.{overlaid}
use Rattle.x_compile.specs.declared.content.CheckResult.{CheckResult}
use Rattle.x_compile.specs.declared.content.Content.{Content}
use Rattle.x_follow.proofs.PlannedLemmas.{IsPlannedAt, faults_own, not_planned, planned_here, planned_more}
use Rattle.x_follow.proofs.PlannedLemmas.{planned_within}
use Rattle.x_follow.proofs.counting.faults_with.Goals as goal
use Rattle.x_follow.proofs.counting.faults_with.Goals.{After-index-found-index, After-own_fault_count}

pub loop-index-init : goal.loop-index-init
loop-index-init c =
    let ks = items.kept (items.patched c.args.items.now.list c.args.patch.now) in
    let all = c.args.found.now in
    c.requires.count ∙ sym (faults_own 0 ks)
    ∙ ap (λ ps. faults_found ks (overlaid 0 ks ps)) (sym (drop_all (length all) all (omega arith)))

here : (c : After-index-found-index)
    → IsPlannedAt (items.kept (items.patched c.args.items.now.list c.args.patch.now)) c.args.found.now
    (c.loop-index.index - 1) c.index-found-index.result
here c =
    let some = c.loop-index-test.true in
    let le = c.loop-index.auto.index in
    planned_here (items.kept (items.patched c.args.items.now.list c.args.patch.now)) c.args.found.now
    (c.loop-index.index - 1) c.index-found-index.result c.requires.planned (omega (arith, some, le))
    c.index-found-index.is

pub kept_behind-requires-clause-within : goal.kept_behind-requires-clause-within
kept_behind-requires-clause-within c =
    let es = items.patched c.args.items.now.list c.args.patch.now in
    let lt = planned_within (items.kept es) c.args.found.now (c.loop-index.index - 1)
    c.index-found-index.result (here c) in
    let l = length-map es (λ (e : ItemEntry Content). e.kept) in
    omega (arith, lt, l)

pub unreachable-requires : goal.unreachable-requires
unreachable-requires c =
    let some = c.loop-index-test.true in
    let le = c.loop-index.auto.index in
    let ks = items.kept (items.patched c.args.items.now.list c.args.patch.now) in
    let n = c.loop-index.index - 1 in
    let p = c.index-found-index.result in
    not_planned ks c.args.found.now n p
    (planned_here ks c.args.found.now n p c.requires.planned (omega (arith, some, le)) c.index-found-index.is)
    (sym c.kept_behind.ensures ∙ ap option_copied c.in_default.is)

more : (c : After-own_fault_count)
    → faults_found (items.kept (items.patched c.args.items.now.list c.args.patch.now))
    (overlaid 0 (items.kept (items.patched c.args.items.now.list c.args.patch.now))
    (drop (c.loop-index.index - 1) c.args.found.now))
    + c.own_fault_count.result ≡ c.in_ok-more.more
more c =
    let some = c.loop-index-test.true in
    let le = c.loop-index.auto.index in
    let ks = items.kept (items.patched c.args.items.now.list c.args.patch.now) in
    let all = c.args.found.now in
    let n = c.loop-index.index - 1 in
    let p = c.index-found-index.result in
    let k = c.in-Some.kept.now in
    let h = planned_here ks all n p c.requires.planned (omega (arith, some, le)) c.index-found-index.is in
    let is : slice_get ks p.item ≡ Some k = sym c.kept_behind.ensures ∙ ap option_copied c.in-Some.is in
    let own = c.own_fault_count.ensures in
    let with : c.fault_count.result ≡ faults_with k (Some p.found) = c.fault_count.ensures
    ∙ ap (λ fs. length (faults_at [] (kept_parse k) fs)) (c.faults.ensures
    ∙ ap (λ (f : CheckResult). f.checked.faults) c.deref.ensures) in
    let sum = c.in_ok-more.ensures in
    let found = planned_more ks all n c.loop-index.count c.loop-index.index p k h is (omega (arith, some))
    c.loop-index.invariant in
    omega (arith, own, with, sum, found)

pub overflow_sub-count : goal.overflow_sub-count
overflow_sub-count c = let m = more c in omega (arith, m)

pub loop-index-preserved : goal.loop-index-preserved
loop-index-preserved c = let m = more c in omega (arith, m)
