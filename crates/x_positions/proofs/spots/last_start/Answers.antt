use Rattle.std.proofs.Common.{◌-◌, ◌∙◌, sym, ap, arith, drop}
use Rattle.x_positions.specs.Positions.{line_end}
use Rattle.x_positions.proofs.LineLemmas.{before_none, before_end, end_within}
use Rattle.x_positions.proofs.WalkLemmas.{is_behind_end}
use Rattle.x_positions.proofs.spots.last_start.Goals as goal

pub returns-in_default-clause-last : goal.returns-in_default-clause-last
returns-in_default-clause-last c =
    before_none (drop c.lines.found.at c.args.text.now) (c.args.at - c.lines.found.at)
    (ap line_end (sym c.behind.ensures) ∙ sym c.in_default.ensures)

pub returns-then-end-at-clause-last : goal.returns-then-end-at-clause-last
returns-then-end-at-clause-last c =
    before_end (drop c.lines.found.at c.args.text.now) c.in-Some.end (c.args.at - c.lines.found.at)
    (ap line_end (sym c.behind.ensures) ∙ sym c.in-Some.ensures) c.if-end-at.true

pub lines-smaller : goal.lines-smaller
lines-smaller c =
    let bounds = end_within c.behind.result.now c.in-Some.end (sym c.in-Some.ensures) in
    let some = bounds.0 in
    omega (arith, some)

pub lines-preserved : goal.lines-preserved
lines-preserved c =
    let found = c.lines.found in
    let text = c.args.text.now in
    let ends = ap line_end (sym c.behind.ensures) ∙ sym c.in-Some.ensures in
    let bounds = end_within c.behind.result.now c.in-Some.end (sym c.in-Some.ensures) in
    let some = bounds.0 in
    let few = c.lines.invariant.few in
    record {
      spot = λ e is. is_behind_end e text found.at c.in-Some.end found.position (c.lines.invariant.spot e is)
          (omega arith) ends;
      few = omega (arith, some, few);
      before = omega arith;
    }
