use Rattle.std.proofs.Common.{vec_len, ◌≡◌, ◌-◌, ◌++◌, ◌∷◌, [], length, refl, ap, ◌∙◌}
use Rattle.x_value.specs.declared.fault.ReadCode.TheVariants as codes
use Rattle.x_value.specs.declared.reading.task.Task.TheVariants.{One}
use Rattle.x_value.specs.Dumps.{root_job}
use Rattle.x_value.specs.Entries.{nodes_of}
use Rattle.x_value.specs.Work.{pending}
use Rattle.x_value.proofs.Faults.{fault_is, not_encoding, done_shown, done_trailing}
use Rattle.x_value.proofs.TurnLemmas.{first_reading, next_reading, last_task, other_tasks, turn_refused}
use Rattle.x_value.proofs.TurnLemmas.{pending_none, is_empty_test, is_some_test, root_is, root_spot}
use Rattle.x_value.proofs.TurnLemmas.{root_form}
use Rattle.x_value.proofs.reading.dump.Goals as goal

pub loop-task-init : goal.loop-task-init
loop-task-init c = record {
  reading =
      let e : c.put.new.stack.items
      ≡ One c.form-form.result (record { label = c.root_label.result; level = 0; links = 0 }) ∷ [] =
      c.in_ok-put.ensures.ok
      ∙ ap (λ t. t ++ (One c.form-form.result (record { label = c.root_label.result; level = 0; links = 0 })
      ∷ [])) c.in_ok-stack.ensures.items in
      first_reading c.args.schema.now (root_job c.args.schema.now c.args.id) c.args.bytes.now
      c.put.new.stack.items c.in_ok-entries.entries.items c.form-form.result
      (record { label = c.root_label.result; level = 0; links = 0 }) e c.in_ok-entries.ensures.items
      (root_is c.args.schema.now c.args.id c.form-form.result c.root_label.result c.root.result
      c.form-form.ensures c.root.ensures (c.root_label.ensures.label c.args.schema.now))
      (root_form c.args.schema.now c.args.id c.form-form.result c.requires c.form-form.ensures)
      (root_spot c.args.schema.now c.args.id c.root_label.result c.root.result c.requires c.root.ensures
      (c.root_label.ensures.known c.args.schema.now));
}

pub carry_out-requires-clause-taken : goal.carry_out-requires-clause-taken
carry_out-requires-clause-taken c = record {
  task = last_task c.args.schema.now c.loop-task.stack.items c.pop.new.self.items c.in-Some.task
      c.in-Some.ensures.items c.loop-task.invariant.reading.tasks;
  tasks = other_tasks c.args.schema.now c.loop-task.stack.items c.pop.new.self.items c.in-Some.task
      c.in-Some.ensures.items c.loop-task.invariant.reading.tasks;
}

pub returns-in-Err-clause-err : goal.returns-in-Err-clause-err
returns-in-Err-clause-err c =
    fault_is c.args.schema.now c.args.id c.args.bytes.now c.counted_from.result.at c.counted_from.result.code
    (turn_refused c.args.schema.now (root_job c.args.schema.now c.args.id) c.args.bytes.now
    c.loop-task.rest.now c.loop-task.stack.items c.pop.new.self.items c.loop-task.entries.items c.in-Some.task
    c.in-Err.fault.at c.counted_from.result.at c.in-Err.fault.code c.counted_from.result.code
    c.loop-task.invariant.reading c.in-Some.ensures.items c.in-Err.ensures.err c.counted_from.ensures.code
    c.counted_from.ensures.memory c.counted_from.ensures.place)

pub returns-in-Err-clause-only : goal.returns-in-Err-clause-only
returns-in-Err-clause-only c =
    not_encoding c.args.schema.now c.args.id c.args.bytes.now c.counted_from.result.at
    c.counted_from.result.code
    (turn_refused c.args.schema.now (root_job c.args.schema.now c.args.id) c.args.bytes.now
    c.loop-task.rest.now c.loop-task.stack.items c.pop.new.self.items c.loop-task.entries.items c.in-Some.task
    c.in-Err.fault.at c.counted_from.result.at c.in-Err.fault.code c.counted_from.result.code
    c.loop-task.invariant.reading c.in-Some.ensures.items c.in-Err.ensures.err c.counted_from.ensures.code
    c.counted_from.ensures.memory c.counted_from.ensures.place)

pub loop-task-preserved : goal.loop-task-preserved
loop-task-preserved c = record {
  reading = next_reading c.args.schema.now (root_job c.args.schema.now c.args.id) c.args.bytes.now
      c.loop-task.stack.items c.pop.new.self.items c.carry_out.new.stack.items c.in-Some.task
      c.loop-task.entries.items c.carry_out.new.entries.items c.loop-task.rest.now c.in-Ok.rest.now
      c.loop-task.invariant.reading c.in-Some.ensures.items c.in-Ok.ensures.ok;
}

pub returns-then-is_empty-clause-ok : goal.returns-then-is_empty-clause-ok
returns-then-is_empty-clause-ok c = rw c.of.ensures
    (done_shown c.args.schema.now c.args.id c.args.bytes.now c.loop-task.rest.now
    (nodes_of c.args.schema.now c.args.bytes.now c.loop-task.entries.items)
    (pending c.args.schema.now c.loop-task.stack.items) c.loop-task.invariant.reading.moves
    (pending_none c.args.schema.now c.loop-task.stack.items c.pop.new.self.items (vec_len c.loop-task.stack)
    c.in_default.ensures.items c.in_default.ensures.rest c.in_default.ensures.cases.0)
    (is_empty_test c.loop-task.rest.now c.is_empty.result c.is_empty.ensures c.if-is_empty.true))

pub returns-clause-err : goal.returns-clause-err
returns-clause-err c =
    fault_is c.args.schema.now c.args.id c.args.bytes.now
    (length c.args.bytes.now - length c.loop-task.rest.now) codes.Trailing
    (done_trailing c.args.schema.now c.args.id c.args.bytes.now c.loop-task.rest.now
    (nodes_of c.args.schema.now c.args.bytes.now c.loop-task.entries.items)
    (length c.args.bytes.now - length c.loop-task.rest.now)
    (pending c.args.schema.now c.loop-task.stack.items) c.loop-task.invariant.reading.moves
    (pending_none c.args.schema.now c.loop-task.stack.items c.pop.new.self.items (vec_len c.loop-task.stack)
    c.in_default.ensures.items c.in_default.ensures.rest c.in_default.ensures.cases.0)
    (is_some_test c.loop-task.rest.now c.is_empty.result c.is_empty.ensures c.if-is_empty.false) refl)

pub returns-clause-only : goal.returns-clause-only
returns-clause-only c =
    not_encoding c.args.schema.now c.args.id c.args.bytes.now
    (length c.args.bytes.now - length c.loop-task.rest.now) codes.Trailing
    (done_trailing c.args.schema.now c.args.id c.args.bytes.now c.loop-task.rest.now
    (nodes_of c.args.schema.now c.args.bytes.now c.loop-task.entries.items)
    (length c.args.bytes.now - length c.loop-task.rest.now)
    (pending c.args.schema.now c.loop-task.stack.items) c.loop-task.invariant.reading.moves
    (pending_none c.args.schema.now c.loop-task.stack.items c.pop.new.self.items (vec_len c.loop-task.stack)
    c.in_default.ensures.items c.in_default.ensures.rest c.in_default.ensures.cases.0)
    (is_some_test c.loop-task.rest.now c.is_empty.result c.is_empty.ensures c.if-is_empty.false) refl)
