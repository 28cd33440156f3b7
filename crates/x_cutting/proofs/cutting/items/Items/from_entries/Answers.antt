use Rattle.std.proofs.Common.{arith, refl}
use Rattle.x_cutting.proofs.CountLemmas.{total_as}
use Rattle.x_cutting.proofs.cutting.items.Items.from_entries.Goals as goal

pub from_entries-requires : goal.from_entries-requires
from_entries-requires g c =
    let short = c.requires.of_text.short in
    let same = total_as c.args.entries.items c.args.entries.items refl in
    omega (arith, short, same)
