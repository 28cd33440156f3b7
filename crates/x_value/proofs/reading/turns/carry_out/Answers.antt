use Rattle.std.proofs.Common.{Option, ℕ, subst}
use Rattle.std.proofs.lemmas.Result.{IfOk-weaker, IfErr-weaker}
use Rattle.x_value.specs.declared.reading.task.Spot as compact
use Rattle.x_value.specs.Work.{TakesTask}
use Rattle.x_value.proofs.TurnLemmas.{turn_closed, turn_opened, refused_opened, opened_parts}
use Rattle.x_value.proofs.reading.turns.carry_out.Goals as goal

pub returns-in_default-clause-ok : goal.returns-in_default-clause-ok
returns-in_default-clause-ok c =
    turn_closed c.args.schema.now c.args.message.now c.args.task c.args.stack.now.items
    c.next_value.new.stack.items c.args.entries.now.items c.args.bytes.now
    (subst (λ (v : Option (ℕ × compact.Spot)). TakesTask c.args.schema.now c.args.task c.args.stack.now.items
    c.next_value.new.stack.items v) c.in_default.is c.in_ok-form.ensures.ok)

pub begin-requires-clause-taken : goal.begin-requires-clause-taken
begin-requires-clause-taken c =
    let o = subst (λ (v : Option (ℕ × compact.Spot)). TakesTask c.args.schema.now c.args.task
    c.args.stack.now.items c.next_value.new.stack.items v) c.in-Some.is c.in_ok-form.ensures.ok in
    let parts = opened_parts c.args.schema.now c.args.task c.args.stack.now.items c.next_value.new.stack.items
    c.in-Some.form c.in-Some.spot o in
    record { task = parts.1; tasks = parts.0 }

pub returns-clause-ok : goal.returns-clause-ok
returns-clause-ok c =
    let o = subst (λ (v : Option (ℕ × compact.Spot)). TakesTask c.args.schema.now c.args.task
    c.args.stack.now.items c.next_value.new.stack.items v) c.in-Some.is c.in_ok-form.ensures.ok in
    IfOk-weaker c.begin.result _ _ (λ rest h.
    turn_opened c.args.schema.now c.args.message.now c.args.task c.args.stack.now.items
    c.next_value.new.stack.items c.begin.new.stack.items c.in-Some.form c.in-Some.spot
    c.args.entries.now.items c.begin.new.entries.items c.args.bytes.now rest.now o h)
    c.begin.ensures.ok

pub returns-clause-err : goal.returns-clause-err
returns-clause-err c =
    let o = subst (λ (v : Option (ℕ × compact.Spot)). TakesTask c.args.schema.now c.args.task
    c.args.stack.now.items c.next_value.new.stack.items v) c.in-Some.is c.in_ok-form.ensures.ok in
    IfErr-weaker c.begin.result _ _ (λ e h.
    refused_opened c.args.schema.now c.args.task c.args.stack.now.items c.next_value.new.stack.items
    c.in-Some.form c.in-Some.spot c.args.bytes.now e.at e.code o h)
    c.begin.ensures.err
