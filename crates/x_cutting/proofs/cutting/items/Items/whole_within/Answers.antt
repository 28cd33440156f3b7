use Rattle.std.proofs.Common.{◌+◌, length, ap, sym, ◌∙◌, arith}
use Rattle.x_cutting.specs.ItemList.{counts}
use Rattle.x_cutting.proofs.CountLemmas.{before_as, total_as, before_le}
use Rattle.x_cutting.proofs.cutting.items.Items.whole_within.Goals as goal

pub count_before-requires-clause-end : goal.count_before-requires-clause-end
count_before-requires-clause-end g c = c.requires
    ∙ sym (total_as c.self.inside.entries.list c.args.self.now.list (ap (λ v. v.list) c.self.view_is))

pub returns-clause-tokens : goal.returns-clause-tokens
returns-clause-tokens g c = c.count_before.ensures.place
    ∙ before_as c.self.inside.entries.list c.args.self.now.list c.count_before.result.0
    (ap (λ v. v.list) c.self.view_is)

pub returns-clause-next : goal.returns-clause-next
returns-clause-next g c lt =
    let list = ap (λ v. v.list) c.self.view_is in
    let count = ap length list in
    let len = c.len.ensures in
    let next = c.count_before.ensures.count.next (omega (arith, lt, count, len)) in
    let sums = before_as c.self.inside.entries.list c.args.self.now.list (c.count_before.result.0 + 1) list in
    let le = before_le (counts c.self.inside.entries.list) (c.count_before.result.0 + 1) in
    let same = before_as c.self.inside.entries.list c.self.inside.entries.list (c.count_before.result.0 + 1)
    (λ _. c.self.inside.entries.list) in
    let short = c.self.invariant.short in
    let limit = c.saturating_add.ensures in
    omega (arith, next, sums, le, same, short, limit)
