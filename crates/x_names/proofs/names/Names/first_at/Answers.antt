use Rattle.std.proofs.Common.{true, false, sym, ◌∙◌}
use Rattle.x_names.proofs.DeclarerLaws.{first_seen}
use Rattle.x_names.proofs.names.Names.first_at.Goals as goal

pub returns-then-is_beforehand : goal.returns-then-is_beforehand
returns-then-is_beforehand c = first_seen _ c.self.inside.table.entries c.args.name.now true c.self.view_is
    (sym c.is_beforehand.ensures ∙ c.if-is_beforehand.true)

pub returns-else-is_beforehand : goal.returns-else-is_beforehand
returns-else-is_beforehand c =
    c.entry_near.ensures ∙ first_seen _ c.self.inside.table.entries c.args.name.now false c.self.view_is
    (sym c.is_beforehand.ensures ∙ c.if-is_beforehand.false)
