use Rattle.std.proofs.Common.{◌+◌, None, cond, ap, sym, ◌∙◌}
use Rattle.std.specs.List.{splice}
use Rattle.x_names.specs.Declarers.{first_from}
use Rattle.x_uses.proofs.Follows.{first_follows}
use Rattle.x_uses.proofs.uses.Uses.first_after.Goals as goal

pub returns-else-is_beforehand : goal.returns-else-is_beforehand
returns-else-is_beforehand c old put is_old is_put within added few =
    let p = c.args.place in
    c.first_after_in.ensures
    ∙ first_follows p old put (record { within = within; added_is = added; few = few })
    c.self.inside.table.entries c.fresh.inside.table.entries c.args.self.now c.args.fresh.now c.self.view_is
    c.fresh.view_is is_old is_put c.args.name.now
    ∙ sym (ap (λ b. cond b None (first_from 0 (splice old p.at (p.at + p.removed) put) c.args.name.now))
    (sym c.is_beforehand.ensures ∙ c.if-is_beforehand.false))
