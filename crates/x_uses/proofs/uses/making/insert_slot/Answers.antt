use Rattle.std.proofs.Common.{Some, refl}
use Rattle.x_uses.proofs.TableLemmas.{inserted}
use Rattle.x_uses.proofs.uses.making.insert_slot.Goals as goal

pub returns-clause-inserted : goal.returns-clause-inserted
returns-clause-inserted c = inserted c.args.table.now c.insert.new.self c.in_ok-key.key c.args.name.now
    c.args.slot (λ _. Some c.args.slot) c.in_ok-key.ensures.items c.in_ok-insert.ensures.updates refl
