use Rattle.std.proofs.Common.{◌∙◌, ◌-◌, sym, arith, drop}
use Rattle.std.proofs.lemmas.List.{length-drop}
use Rattle.x_positions.proofs.LineLemmas.{before_none, before_end, end_within, next_start}
use Rattle.x_positions.proofs.places.last_line.Goals as goal

pub returns-in_default-clause-last : goal.returns-in_default-clause-last
returns-in_default-clause-last c =
    before_none (drop c.lines.found.start c.args.text.now) (c.args.at - c.lines.found.start)
    (sym c.lines.invariant.line.next_is ∙ c.in_default.is)

pub returns-then-next-at-clause-last : goal.returns-then-next-at-clause-last
returns-then-next-at-clause-last c =
    before_end (drop c.lines.found.start c.args.text.now) c.in-Some.next (c.args.at - c.lines.found.start)
    (sym c.lines.invariant.line.next_is ∙ c.in-Some.is) c.if-next-at.true

pub at-found-requires : goal.at-found-requires
at-found-requires c =
    next_start c.args.text.now c.lines.found.number c.lines.found.start c.in-Some.next
    c.lines.invariant.line.starts (sym c.lines.invariant.line.next_is ∙ c.in-Some.is)

pub lines-smaller : goal.lines-smaller
lines-smaller c =
    let bounds = end_within (drop c.lines.found.start c.args.text.now) c.in-Some.next
    (sym c.lines.invariant.line.next_is ∙ c.in-Some.is) in
    let some = bounds.0 in
    let room = bounds.1 in
    let start = c.at-found.ensures.start in
    let len = length-drop c.lines.found.start c.args.text.now in
    omega (arith, some, room, len, start)
