use Rattle.std.proofs.lemmas.Result.{err_from_is_err_and}
use Rattle.x_value.specs.Work.{pending}
use Rattle.x_value.proofs.TurnLemmas.{turn_begun, pending_ready}
use Rattle.x_value.proofs.reading.turns.begin.Goals as goal

pub returns-in_err-step-clause-err : goal.returns-in_err-step-clause-err
returns-in_err-step-clause-err c =
    let p = err_from_is_err_and c.from_residual.result c.from_residual.ensures.1 in rw (p.1, p.2)
    (c.in_err-step.ensures.err (pending c.args.schema.now c.args.stack.now.items)
    (pending_ready c.args.schema.now c.args.stack.now.items c.requires.sound c.requires.taken.tasks))

pub returns-clause-ok : goal.returns-clause-ok
returns-clause-ok c =
    turn_begun c.args.schema.now c.args.message.now c.args.form c.args.spot c.args.bytes.now
    c.in_ok-step.step.rest.now c.in_ok-step.step.first c.in_ok-step.step.second c.in_ok-step.step.next
    c.args.stack.now.items c.put_next.new.stack.items c.args.entries.now.items c.show_all.new.entries.items
    c.in_ok-step.ensures.ok c.in_ok-show_all.ensures.ok c.in_ok-put_next.ensures.ok c.requires.taken.tasks
