use Rattle.std.proofs.Common.{◌/◌, ◌^◌, nat_eq, cond, [], ◌∷◌, ◌++◌, Some, sym, ap, ◌∙◌}
use Rattle.x_wire.specs.LastCalls.{CountedCalls, last_call, last_in}
use Rattle.x_wire.specs.declared.telling.calls.LastCall.{LastCall}
use Rattle.x_wire.proofs.Dumping.{on_err}
use Rattle.x_wire.proofs.Generations.{last_same, put_last}
use Rattle.x_wire.proofs.telling.calls.Calls.put.Goals as goal

pub returns-in_err-insert-clause-same : goal.returns-in_err-insert-clause-same
returns-in_err-insert-clause-same c = on_err c.from_residual-in_err-insert.result _ (λ q.
    last_same c.begin_generations.new.before.items c.begin_generations.new.last c.insert.new.self q
    c.in_err-insert.ensures.err
    ∙ c.begin_generations.ensures.same q ∙ ap (λ (s : CountedCalls). last_call s q) c.self.view_is)

pub returns-clause-last : goal.returns-clause-last
returns-clause-last c q =
    let before = c.begin_generations.new.before.items in
    let at = c.self.inside.count / 2 ^ 32 in
    let test = nat_eq c.args.xid q in
    put_last before c.begin_generations.new.last c.insert.new.self at c.args.xid c.in_ok-call.call
    (sym c.in_ok-begin_generations.ensures.reached) c.in_ok-insert.ensures.updates.0 q
    ∙ ap (λ (l : LastCall). cond test (Some l) (last_in 0 (before ++ c.begin_generations.new.last ∷ []) q))
    c.in_ok-call.ensures
    ∙ ap (cond test (Some (record { number = c.self.inside.count; procedure = c.args.procedure })))
    (c.begin_generations.ensures.same q)
    ∙ ap (λ (s : CountedCalls). cond test (Some (record { number = s.count; procedure = c.args.procedure }))
    (last_call s q)) c.self.view_is
