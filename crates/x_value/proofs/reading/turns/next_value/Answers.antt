use Rattle.std.proofs.Common.{Some, sym, subst}
use Rattle.x_value.specs.Work.{IsTyped, TakesTask}
use Rattle.x_value.proofs.TurnLemmas.{opened_one}
use Rattle.x_value.proofs.reading.turns.next_value.Goals as goal

pub returns-in-One-clause-ok : goal.returns-in-One-clause-ok
returns-in-One-clause-ok c =
    let s = c.args.schema.now in
    let old = c.args.stack.now.items in
    subst (λ t. TakesTask s t old old (Some (c.in-One.form, c.in-One.spot))) (sym c.in-One.is)
    (opened_one s c.in-One.form c.in-One.spot old c.requires.tasks
    (subst (IsTyped s) c.in-One.is c.requires.task))
