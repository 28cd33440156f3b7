use Rattle.std.proofs.Common.{◌+◌, ◌∙◌, ◌<◌, drop, subst, ap}
use Rattle.x_lookups.specs.Sizes.{with_cases}
use Rattle.x_lookups.proofs.SizeLemmas.{case_more}
use Rattle.x_lookups.proofs.sizes.Size.of_arms.Goals as goal

pub loop-index-preserved : goal.loop-index-preserved
loop-index-preserved c =
    let sizes = c.args.sizes.now in
    let cases = c.args.arms.now.cases in
    let i = c.loop-index.index in
    ap (λ s. with_cases sizes s (drop (i + 1) cases)) c.with_case-size.ensures
    ∙ case_more sizes c.loop-index.size cases i
    (subst (λ n. i < n) c.case_count-index-end.ensures c.loop-index-test.true)
    ∙ c.loop-index.invariant
