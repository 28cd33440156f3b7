use Rattle.std.proofs.Common.{◌∙◌, ◌+◌, drop, sym, ap, slice_index}
use Rattle.x_positions.specs.Positions.{starts_feed}
use Rattle.x_positions.proofs.Choices.{alone}
use Rattle.x_positions.proofs.LineLemmas.{end_found, no_end_found, pair_found}
use Rattle.x_positions.proofs.positions.line_end.Goals as goal
use Rattle.x_positions.proofs.positions.line_end.Goals.{
  else-rest-at-eq13-via-then-rest-at-eq13+else-starts_feed,
}
use Rattle.x_positions.proofs.positions.line_end.Goals.{else-rest-at-eq13-via-else-rest-at-eq13}

pub returns-in_default : goal.returns-in_default
returns-in_default c = sym (no_end_found c.args.rest.now c.in_default.ensures)

pub returns-then-starts_feed : goal.returns-then-starts_feed
returns-then-starts_feed c =
    sym (pair_found c.args.rest.now c.in-Some.at c.in-Some.ensures c.if-rest-at-eq13.true
    (ap starts_feed (sym c.behind.ensures) ∙ sym c.starts_feed.ensures ∙ c.if-starts_feed.true))

pub returns : goal.returns
returns c =
    let rest = c.args.rest.now in
    let at = c.in-Some.at in
    sym (end_found rest at c.in-Some.ensures (alone (slice_index rest at) (starts_feed (drop (at + 1) rest)) (
    elim c.else-rest-at-eq13.branch [
      | else-rest-at-eq13-via-then-rest-at-eq13+else-starts_feed w ↦
          λ is feed. let wrong = sym w.if-starts_feed.false ∙ w.starts_feed.ensures
          ∙ ap starts_feed w.behind.ensures ∙ feed in cc
      | else-rest-at-eq13-via-else-rest-at-eq13 w ↦ λ is feed. w.if-rest-at-eq13.false is
    ])))
