use Rattle.std.proofs.Common.{ap, sym, ◌∙◌}
use Rattle.x_uses.specs.Occurrences.{users_at, users_in}
use Rattle.x_uses.proofs.TableLemmas.{slot_seen}
use Rattle.x_uses.proofs.uses.Uses.users.Goals as goal

pub returns : goal.returns
returns c = c.users_in.ensures ∙ ap users_at (sym (slot_seen c.self.inside.table.entries c.args.name.now))
    ∙ ap (λ u. users_in u c.args.name.now) c.self.view_is
