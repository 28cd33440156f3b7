use Rattle.std.proofs.Common.{◌∙◌}
use Rattle.x_positions.proofs.MarkLemmas.{clamped}
use Rattle.x_positions.proofs.waymarks.Waymarks.range.Goals as goal

pub returns-clause-end : goal.returns-clause-end
returns-clause-end c = c.position_from.ensures
    ∙ clamped c.args.self.now.encoding c.args.text.now c.args.end c.min.result c.min.ensures
