use Rattle.std.proofs.Common.{◌+◌, ◌<◌, ◌≤◌, refl, arith}
use Rattle.x_value.specs.declared.reading.task.Task.TheVariants.{Elements}
use Rattle.x_value.proofs.TurnLemmas.{stacked_same, no_element, one_element}
use Rattle.x_value.proofs.reading.turns.next_element.Goals as goal

pub returns-then-next-end-clause-ok : goal.returns-then-next-end-clause-ok
returns-then-next-end-clause-ok c =
    let le : c.args.end ≤ c.args.next = let h = c.if-next-end.true in omega arith in
    stacked_same c.args.schema.now (Elements c.args.form c.args.next c.args.end c.args.level c.args.links)
    c.args.stack.now.items c.args.stack.now.items
    (no_element c.args.schema.now c.args.form c.args.next c.args.end c.args.level c.args.links
    c.args.stack.now.items le c.requires.tasks)

pub returns-clause-ok : goal.returns-clause-ok
returns-clause-ok c =
    let lt : c.args.next < c.args.end = let h = c.if-next-end.false in omega arith in
    one_element c.args.schema.now c.args.form c.args.next (c.args.next + 1) c.args.end c.args.level
    c.args.links c.args.stack.now.items c.put.new.stack.items _ lt (omega arith) c.requires.task
    c.requires.tasks c.in_ok-put.ensures.ok refl
