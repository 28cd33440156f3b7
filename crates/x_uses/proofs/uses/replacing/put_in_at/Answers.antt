use Rattle.std.proofs.Common.{Some, ap, sym, ◌∙◌}
use Rattle.std.specs.Prelude.{option_map}
use Rattle.std.specs.Option.{option_copied_mut}
use Rattle.x_uses.specs.Slots.{slot_filled}
use Rattle.x_uses.proofs.TableLemmas.{written}
use Rattle.x_uses.proofs.uses.replacing.put_in_at.Goals as goal

pub returns-in-Some : goal.returns-in-Some
returns-in-Some c =
    written c.args.table.now (c.get_mut.follows.lender c.put_in.new.self) c.args.name.now c.in-Some.slot.now
    c.put_in.new.self (option_map (slot_filled c.args.at c.args.fresh.now))
    (sym c.get_mut.ensures.value ∙ ap option_copied_mut c.in-Some.is) (ap Some c.put_in.ensures)
    (c.get_mut.follows.holds c.put_in.new.self)
