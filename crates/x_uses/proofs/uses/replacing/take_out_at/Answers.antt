use Rattle.std.proofs.Common.{Some, ap, sym, ◌∙◌}
use Rattle.std.specs.Prelude.{option_map}
use Rattle.std.specs.Option.{option_copied_mut}
use Rattle.x_uses.specs.Slots.{slot_stays}
use Rattle.x_uses.proofs.TableLemmas.{written}
use Rattle.x_uses.proofs.uses.replacing.take_out_at.Goals as goal

pub returns-in-Some : goal.returns-in-Some
returns-in-Some c =
    written c.args.table.now (c.get_mut.follows.lender c.take_out.new.self) c.args.name.now c.in-Some.slot.now
    c.take_out.new.self (option_map (slot_stays c.args.place))
    (sym c.get_mut.ensures.value ∙ ap option_copied_mut c.in-Some.is) (ap Some c.take_out.ensures)
    (c.get_mut.follows.holds c.take_out.new.self)
