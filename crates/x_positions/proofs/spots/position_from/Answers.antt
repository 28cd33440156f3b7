use Rattle.std.proofs.Common.{◌∙◌, ap, sym, subst}
use Rattle.x_positions.specs.Positions.{position_of}
use Rattle.x_positions.specs.Waymarks.{IsAt}
use Rattle.x_positions.proofs.SpotLemmas.{near_at, near_is}
use Rattle.x_positions.proofs.spots.position_from.Goals as goal

pub position_in-requires-clause-from : goal.position_in-requires-clause-from
position_in-requires-clause-from c =
    let e = c.args.encoding in
    let from = c.args.from in
    subst (λ l. IsAt e l from.at from.position) (sym c.split_at.ensures.front)
    (near_at e c.args.text.now c.args.at from.at c.min.result from.position c.requires.before
    c.requires.within c.min.ensures c.requires.from)

pub returns : goal.returns
returns c =
    let e = c.args.encoding in
    c.position_in.ensures ∙ ap (λ l. position_of e l c.args.at) c.split_at.ensures.front
    ∙ near_is e c.args.text.now c.args.at c.min.result c.min.ensures
