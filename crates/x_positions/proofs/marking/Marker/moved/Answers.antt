use Rattle.std.proofs.Common.{◌≡◌, ◌+◌, ◌-◌, ◌∙◌, sym, ap, arith}
use Rattle.x_positions.specs.declared.positions.Position.{Position}
use Rattle.x_positions.specs.Positions.{position_of}
use Rattle.x_positions.proofs.LineLemmas.{position}
use Rattle.x_positions.proofs.MarkLemmas.{has_moved, moved_behind, moved_in_line}
use Rattle.x_positions.proofs.WalkLemmas.{few_at}
use Rattle.x_positions.proofs.marking.Marker.moved.Goals as goal
use Rattle.x_positions.proofs.marking.Marker.moved.Goals.{then-line-eq0, else-line-eq0}

pub overflow_sub-line : goal.overflow_sub-line
overflow_sub-line c =
    let s = c.args.self.now in
    (has_moved s.encoding s.text.now c.requires.moved.0 c.args.from c.args.to c.args.spot c.requires.moved.1
    c.requires.moved.2 c.requires.behind).shift.onward

pub overflow_sub-character : goal.overflow_sub-character
overflow_sub-character c =
    let s = c.args.self.now in
    let shift = (has_moved s.encoding s.text.now c.requires.moved.0 c.args.from c.args.to c.args.spot
    c.requires.moved.1 c.requires.moved.2 c.requires.behind).shift in
    let onward = shift.onward in
    let none = c.if-line-eq0.true in
    (shift.same (omega (arith, onward, none))).0

pub overflow_add-character : goal.overflow_add-character
overflow_add-character c =
    let s = c.args.self.now in
    let h = has_moved s.encoding s.text.now c.requires.moved.0 c.args.from c.args.to c.args.spot
    c.requires.moved.1 c.requires.moved.2 c.requires.behind in
    let same = ap (λ (v : Position). v.character)
    (moved_in_line c.args.from.position c.args.to.position c.args.spot.position _ h.shift
    c.if-line-eq0.true) in
    let few = (few_at s.encoding s.text.now _ _ h.is_at).1 in
    let within = h.is_at.within in
    let small = s.small in
    omega (arith, same, few, within, small)

pub overflow_add-result-2 : goal.overflow_add-result-2
overflow_add-result-2 c =
    let s = c.args.self.now in
    let h = has_moved s.encoding s.text.now c.requires.moved.0 c.args.from c.args.to c.args.spot
    c.requires.moved.1 c.requires.moved.2 c.requires.behind in
    let lines = h.shift.lines in
    let onward = h.shift.onward in
    let few = (few_at s.encoding s.text.now _ _ h.is_at).0 in
    let within = h.is_at.within in
    let small = s.small in
    omega (arith, lines, onward, few, within, small)

pub returns : goal.returns
returns c =
    let s = c.args.self.now in
    let from = c.args.from in
    let to = c.args.to in
    let spot = c.args.spot in
    let there = position_of s.encoding s.text.now (to.at + (spot.at - from.at)) in
    let h = has_moved s.encoding s.text.now c.requires.moved.0 from to spot c.requires.moved.1
    c.requires.moved.2 c.requires.behind in
    let is : position (to.position.line + (spot.position.line - from.position.line)) c.if-line-eq0.character
    ≡ there =
    elim c.if-line-eq0.branch [
      | then-line-eq0 w ↦ ap (position (to.position.line + (spot.position.line - from.position.line)))
          w.character-is ∙ moved_in_line from.position to.position spot.position there h.shift
          w.if-line-eq0.true
      | else-line-eq0 w ↦ ap (position (to.position.line + (spot.position.line - from.position.line)))
          w.character-is ∙ moved_behind from.position to.position spot.position there h.shift
          w.if-line-eq0.false
    ] in
    record { within = h.is_at.within; position_is = h.is_at.position_is ∙ sym is }
