use Rattle.std.proofs.Common.{sym, ◌∙◌, arith, drop}
use Rattle.std.proofs.lemmas.List.{length-drop}
use Rattle.x_positions.proofs.LineLemmas.{end_within, next_start}
use Rattle.x_positions.proofs.places.Line.next_line.Goals as goal

pub overflow_add-self-2 : goal.overflow_add-self-2
overflow_add-self-2 c =
    let text = c.args.text.now in
    let bounds = end_within (drop c.args.self.start text) c.in_ok-next.next
    (sym c.requires.next_is ∙ c.in_ok-next.was) in
    let room = bounds.1 in
    let len = length-drop c.args.self.start text in
    omega (arith, room, len)

pub at-requires : goal.at-requires
at-requires c = next_start c.args.text.now c.args.self.number c.args.self.start c.in_ok-next.next
    c.requires.starts (sym c.requires.next_is ∙ c.in_ok-next.was)
