use Rattle.std.proofs.Common.{refl}
use Rattle.x_value.specs.declared.reading.task.Task.TheVariants.{Fields}
use Rattle.x_value.proofs.TurnLemmas.{stacked_same, no_field, one_field}
use Rattle.x_value.proofs.reading.turns.next_field.Goals as goal

pub returns-in_default-clause-ok : goal.returns-in_default-clause-ok
returns-in_default-clause-ok c =
    stacked_same c.args.schema.now (Fields c.args.form c.args.place c.args.level c.args.links)
    c.args.stack.now.items c.args.stack.now.items
    (no_field c.args.schema.now c.args.form c.args.place c.args.level c.args.links c.form_at.result.now
    c.args.stack.now.items c.form_at.ensures.form c.in_default.ensures c.requires.tasks)

pub returns-clause-ok : goal.returns-clause-ok
returns-clause-ok c =
    one_field c.args.schema.now c.args.form c.args.place c.in-Some.next c.args.level c.args.links
    c.form_at.result.now c.in-Some.field c.args.stack.now.items c.put.new.stack.items _
    c.form_at.ensures.sound c.form_at.ensures.form
    c.in-Some.ensures.0 c.in-Some.ensures.1 c.requires.task c.requires.tasks c.in_ok-put.ensures.ok refl
