use Rattle.std.proofs.Common.{◌∙◌, ap, subst, sym}
use Rattle.std.specs.Prelude.{All}
use Rattle.x_positions.specs.Positions.{position_of}
use Rattle.x_positions.specs.Waymarks.{IsWaymark}
use Rattle.x_positions.proofs.MarkLemmas.{clamped}
use Rattle.x_positions.proofs.waymarks.Waymarks.spot.Goals as goal

pub returns-then-found-at-clause-position : goal.returns-then-found-at-clause-position
returns-then-found-at-clause-position c =
    let e = c.args.self.now.encoding in
    let text = c.args.text.now in
    sym (c.last_before-found.ensures.spot e text
    (subst (All (IsWaymark e text)) (sym c.deref.ensures.value) c.requires.faults)).position_is
    ∙ ap (position_of e text) c.if-found-at.true ∙ clamped e text c.args.at c.min-at.result c.min-at.ensures

pub returns-clause-position : goal.returns-clause-position
returns-clause-position c =
    sym c.spot_from.ensures.spot.position_is
    ∙ clamped c.args.self.now.encoding c.args.text.now c.args.at c.min-at.result c.min-at.ensures
