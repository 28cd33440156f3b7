use Rattle.std.proofs.Common.{ap, ◌∙◌, arith}
use Rattle.x_lists.specs.Lengths.{patched}
use Rattle.x_cutting.proofs.CountLemmas.{total_as}
use Rattle.x_cutting.proofs.cutting.items.Items.put.Goals as goal

pub put-requires-clause-short : goal.put-requires-clause-short
put-requires-clause-short g c =
    let left = ap (λ v. patched v.list c.into_entries.result) c.self.view_is
    ∙ ap (λ p. patched c.args.self.now.list p) c.into_entries.ensures in
    let sums = total_as (patched c.self.inside.entries.list c.into_entries.result)
    (patched c.args.self.now.list c.args.patch) left in
    let short = c.requires.of_text.short in
    omega (arith, sums, short)
