use Rattle.x_positions.proofs.WalkLemmas.{is_in_pair}
use Rattle.x_positions.proofs.spots.outside_pair.Goals as goal

pub returns-then-text-at-eq10-clause-spot : goal.returns-then-text-at-eq10-clause-spot
returns-then-text-at-eq10-clause-spot c e is =
    is_in_pair e c.args.text.now c.args.spot.at c.args.spot.position c.if-at-gt0.true c.if-at-text.true
    c.if-text-at-eq13.true c.if-text-at-eq10.true is
