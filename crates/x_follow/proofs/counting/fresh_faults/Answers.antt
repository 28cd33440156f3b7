use Rattle.std.proofs.Common.{ap, ◌∙◌, ◌+◌, arith}
use Rattle.x_compile.specs.Counting.{entry_faults}
use Rattle.x_follow.proofs.CountingLemmas.{own_next}
use Rattle.x_follow.proofs.counting.fresh_faults.Goals as goal

pub loop-index-preserved : goal.loop-index-preserved
loop-index-preserved c =
    let es = c.args.patch.now.fresh in
    let lt = c.loop-index-test.true in
    let end = c.len-index-end.ensures in
    own_next es c.loop-index.index c.loop-index.count c.in_ok-count.count (omega (arith, lt, end))
    c.loop-index.invariant
    (c.in_ok-count.ensures
    ∙ ap (λ n. c.loop-index.count + n) (c.faults_of.ensures ∙ ap entry_faults c.get.ensures))
