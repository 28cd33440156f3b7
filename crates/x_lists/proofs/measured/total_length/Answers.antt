use Rattle.std.proofs.Common.{◌+◌, ap, arith}
use Rattle.x_lists.proofs.LengthLemmas.{total_take_le, total_take_more}
use Rattle.x_lists.proofs.measured.total_length.Goals as goal

pub overflow_add-total : goal.overflow_add-total
overflow_add-total g c =
    let size = g.T.Measured.length in
    let le = total_take_le size c.args.entries.now (c.loop-entry.entry-index + 1) in
    let more = total_take_more size c.args.entries.now c.loop-entry.entry-index c.entry-item.result
    c.loop-entry-test.true in
    let is = ap size c.entry-item.is in
    let total = c.loop-entry.invariant in
    let length = c.length-total.ensures in
    let short = c.requires in
    omega (arith, le, more, is, total, length, short)

pub loop-entry-preserved : goal.loop-entry-preserved
loop-entry-preserved g c =
    let size = g.T.Measured.length in
    let more = total_take_more size c.args.entries.now c.loop-entry.entry-index c.entry-item.result
    c.loop-entry-test.true in
    let is = ap size c.entry-item.is in
    let total = c.loop-entry.invariant in
    let length = c.length-total.ensures in
    omega (arith, more, is, total, length)
