use Rattle.std.proofs.Common.{subst, sym}
use Rattle.x_uses.specs.Occurrences.{IsUsesOf}
use Rattle.x_uses.proofs.TableLemmas.{room_known}
use Rattle.x_uses.proofs.uses.Uses.replace.Goals as goal

pub replace_in-requires : goal.replace_in-requires
replace_in-requires c = room_known c.self.inside.table.entries c.fresh.inside.table.entries c.args.self.now
    c.args.fresh.now c.self.view_is c.fresh.view_is c.requires.room

pub returns : goal.returns
returns c old put is_old is_gone is_put =
    c.replace_in.ensures old put (subst (IsUsesOf old) (sym c.self.view_is) is_old)
    (subst (IsUsesOf _) (sym c.gone.view_is) is_gone) (subst (IsUsesOf put) (sym c.fresh.view_is) is_put)
