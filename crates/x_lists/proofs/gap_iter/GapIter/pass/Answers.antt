use Rattle.std.proofs.Common.{◌+◌, ◌^◌, ◌<◌, ◌++◌, reverse, drop, sym, ap, subst, ◌∙◌, arith}
use Rattle.x_lists.specs.Lengths.{total_length, length_before}
use Rattle.x_lists.proofs.PassLemmas.{passed_left, passed_total, passed_short}
use Rattle.x_lists.proofs.gap_iter.GapIter.pass.Goals as goal

pub total_length-requires : goal.total_length-requires
total_length-requires g c =
    let front = c.self.inside.front.now in
    let rear = c.self.inside.rear.now in
    let short = passed_short g.T.Measured.length front rear c.split_at.result.0.now c.split_at-2.result.1.now
    c.args.count c.min.result c.saturating_sub-kept.result c.min.ensures c.split_at.ensures.front
    c.saturating_sub-kept.ensures c.split_at-2.ensures.back
    (subst (λ l. total_length g.T.Measured.length l < 2 ^ 64) (sym c.self.view_is) c.requires.short) in
    omega (arith, short)

pub total_length-requires-2 : goal.total_length-requires-2
total_length-requires-2 g c =
    let front = c.self.inside.front.now in
    let rear = c.self.inside.rear.now in
    let short = passed_short g.T.Measured.length front rear c.split_at.result.0.now c.split_at-2.result.1.now
    c.args.count c.min.result c.saturating_sub-kept.result c.min.ensures c.split_at.ensures.front
    c.saturating_sub-kept.ensures c.split_at-2.ensures.back
    (subst (λ l. total_length g.T.Measured.length l < 2 ^ 64) (sym c.self.view_is) c.requires.short) in
    omega (arith, short)

pub overflow_add-result : goal.overflow_add-result
overflow_add-result g c =
    let front = c.self.inside.front.now in
    let rear = c.self.inside.rear.now in
    let short = passed_short g.T.Measured.length front rear c.split_at.result.0.now c.split_at-2.result.1.now
    c.args.count c.min.result c.saturating_sub-kept.result c.min.ensures c.split_at.ensures.front
    c.saturating_sub-kept.ensures c.split_at-2.ensures.back
    (subst (λ l. total_length g.T.Measured.length l < 2 ^ 64) (sym c.self.view_is) c.requires.short) in
    let first = c.total_length.ensures in
    let last = c.total_length-2.ensures in
    omega (arith, short, first, last)

pub returns-clause-left : goal.returns-clause-left
returns-clause-left g c =
    let front = c.self.inside.front.now in
    let rear = c.self.inside.rear.now in
    (λ i. c.split_at.ensures.back i ++ reverse (c.split_at-2.ensures.front i))
    ∙ passed_left g.T.Measured.length front rear c.split_at.result.0.now c.split_at-2.result.1.now
    c.args.count c.min.result c.saturating_sub-kept.result c.min.ensures c.split_at.ensures.front
    c.saturating_sub-kept.ensures c.split_at-2.ensures.back
    ∙ ap (drop c.args.count) c.self.view_is

pub returns-clause-length : goal.returns-clause-length
returns-clause-length g c =
    let front = c.self.inside.front.now in
    let rear = c.self.inside.rear.now in
    (λ i. c.total_length.ensures i + c.total_length-2.ensures i)
    ∙ passed_total g.T.Measured.length front rear c.split_at.result.0.now c.split_at-2.result.1.now
    c.args.count c.min.result c.saturating_sub-kept.result c.min.ensures c.split_at.ensures.front
    c.saturating_sub-kept.ensures c.split_at-2.ensures.back
    ∙ ap (λ l. length_before g.T.Measured.length l c.args.count) c.self.view_is
