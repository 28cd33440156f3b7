use Rattle.std.proofs.Common.{◌<◌, ◌^◌, arith, map, subst}
use Rattle.x_trees.specs.View.{tree_at}
use Rattle.x_recheck.specs.Editing.{edit_at}
use Rattle.x_recheck.specs.inside.Deciding.{HasAdvanced}
use Rattle.x_recheck.proofs.FoundLemmas.{counted_none}
use Rattle.x_recheck.proofs.NextLemmas.{rechecked_all}
use Rattle.x_recheck.proofs.rechecking.recheck.Goals as goal

pub returns-in_err-queue-clause-counts : goal.returns-in_err-queue-clause-counts
returns-in_err-queue-clause-counts g c =
    let fits : c.checked-counted.result < 2 ^ 64 = c.checked-counted.type_inv in
    let is = c.checked-counted.ensures in
    (0, counted_none c.args.meter.now (omega (arith, fits, is)))

pub returns-in_err-item-clause-counts : goal.returns-in_err-item-clause-counts
returns-in_err-item-clause-counts g c =
    let fits : c.checked-counted.result < 2 ^ 64 = c.checked-counted.type_inv in
    let is = c.checked-counted.ensures in
    let h = c.loop-rechecked.invariant.counts c.args.meter.now 0
    (counted_none c.args.meter.now (omega (arith, fits, is))) in
    c.check_next.ensures.counts c.args.meter.now h.0 h.1

pub returns-clause-counts : goal.returns-clause-counts
returns-clause-counts g c =
    let fits : c.checked-counted.result < 2 ^ 64 = c.checked-counted.type_inv in
    let is = c.checked-counted.ensures in
    let h = c.loop-rechecked.invariant.counts c.args.meter.now 0
    (counted_none c.args.meter.now (omega (arith, fits, is))) in
    c.check_next.ensures.counts c.args.meter.now h.0 h.1

pub returns-clause-rechecked : goal.returns-clause-rechecked
returns-clause-rechecked g c =
    let e = edit_at (g.L.CheckedItems.text c.args.old.now) c.args.place (map tree_at c.args.put.now) in
    rechecked_all e c.check_next.new.rechecked.items
    (subst (λ r. HasAdvanced e c.loop-rechecked.low r c.check_next.new.rechecked.items c.check_next.new.queue)
    c.in_default.is c.in_ok-item.ensures.turned)
