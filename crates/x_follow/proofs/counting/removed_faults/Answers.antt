use Rattle.std.proofs.Common.{ap, ◌∙◌, ◌+◌, arith}
use Rattle.x_compile.specs.Counting.{entry_faults}
use Rattle.x_follow.proofs.CountingLemmas.{own_behind}
use Rattle.x_follow.proofs.counting.removed_faults.Goals as goal

pub loop-index-preserved : goal.loop-index-preserved
loop-index-preserved c =
    let es = c.args.items.now.list in
    let lt = c.loop-index-test.true in
    let le = c.loop-index.auto.index in
    let from = c.at-index.ensures in
    let at = c.at.ensures in
    let removed = c.removed.ensures in
    let among = c.requires in
    own_behind es c.args.patch.now.at c.loop-index.index c.loop-index.count c.in_ok-count.count
    (omega (arith, le, from)) (omega (arith, lt, at, removed, among)) c.loop-index.invariant
    (c.in_ok-count.ensures
    ∙ ap (λ n. c.loop-index.count + n) (c.faults_of.ensures ∙ ap entry_faults c.get.ensures))
