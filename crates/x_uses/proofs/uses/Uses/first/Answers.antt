use Rattle.std.proofs.Common.{None, cond, ap, sym, ◌∙◌}
use Rattle.x_names.specs.Declarers.{first_from}
use Rattle.x_uses.specs.Occurrences.{declarers_at, declarers_in}
use Rattle.x_uses.specs.Slots.{first_of}
use Rattle.x_uses.proofs.TableLemmas.{slot_seen}
use Rattle.x_uses.proofs.Follows.{first_of_declarers}
use Rattle.x_uses.proofs.uses.Uses.first.Goals as goal

pub returns-else-is_beforehand : goal.returns-else-is_beforehand
returns-else-is_beforehand c old is =
    c.first_in.ensures ∙ ap (λ s. first_of (declarers_at s))
    (sym (slot_seen c.self.inside.table.entries c.args.name.now))
    ∙ ap (λ u. first_of (declarers_in u c.args.name.now)) c.self.view_is
    ∙ ap first_of (is.declarers c.args.name.now) ∙ first_of_declarers 0 old c.args.name.now
    ∙ sym (ap (λ b. cond b None (first_from 0 old c.args.name.now))
    (sym c.is_beforehand.ensures ∙ c.if-is_beforehand.false))
