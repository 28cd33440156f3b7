use Rattle.std.proofs.Common.{ap, ◌∙◌}
use Rattle.x_cutting.proofs.CountLemmas.{before_as}
use Rattle.x_cutting.proofs.cutting.items.Items.first_token.Goals as goal

pub returns : goal.returns
returns g c = c.start_of.ensures
    ∙ before_as c.self.inside.entries.list c.args.self.now.list c.args.index (ap (λ v. v.list) c.self.view_is)
