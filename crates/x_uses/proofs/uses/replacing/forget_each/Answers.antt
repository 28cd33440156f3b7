use Rattle.x_uses.proofs.TableLemmas.{cut_off}
use Rattle.x_uses.proofs.uses.replacing.forget_each.Goals as goal

pub loop-name-init : goal.loop-name-init
loop-name-init c = cut_off c.count_without_last-count.result c.args.table.now.entries
    c.truncate.new.self.entries c.truncate.ensures.entries c.count_without_last-count.ensures

pub returns-else-saturating_sub-len : goal.returns-else-saturating_sub-len
returns-else-saturating_sub-len c = cut_off c.count_without_last-count.result c.args.table.now.entries
    c.truncate.new.self.entries c.truncate.ensures.entries c.count_without_last-count.ensures
