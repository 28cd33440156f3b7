use Rattle.x_uses.proofs.TableLemmas.{forgotten}
use Rattle.x_uses.proofs.uses.replacing.forget_at.Goals as goal

pub returns-then-has_empty_slot : goal.returns-then-has_empty_slot
returns-then-has_empty_slot c =
    forgotten c.args.table.now c.swap_remove.new.self c.args.name.now c.swap_remove.ensures.updates
    (c.has_empty_slot.ensures.declarers c.if-has_empty_slot.true)
    (c.has_empty_slot.ensures.users c.if-has_empty_slot.true)
