use Rattle.std.proofs.Common.{arith}
use Rattle.x_follow.proofs.CountingLemmas.{own_patched}
use Rattle.x_follow.proofs.counting.faults_behind.Goals as goal

pub overflow_sub-count : goal.overflow_sub-count
overflow_sub-count c =
    let own = own_patched c.args.items.now.entries.list c.args.patch.now in
    let fresh = c.in_ok-fresh_faults.ensures in
    let more = c.in_ok-more.ensures in
    let gone = c.in_ok-count.ensures in
    let old = c.requires.count in
    omega (arith, own, fresh, more, gone, old)

pub faults_with-requires-clause-count : goal.faults_with-requires-clause-count
faults_with-requires-clause-count c =
    let own = own_patched c.args.items.now.entries.list c.args.patch.now in
    let fresh = c.in_ok-fresh_faults.ensures in
    let more = c.in_ok-more.ensures in
    let gone = c.in_ok-count.ensures in
    let old = c.requires.count in
    omega (arith, own, fresh, more, gone, old)
