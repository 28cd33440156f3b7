use Rattle.x_wire.proofs.Leaves.{state_reads, state_cut, state_bad}
use Rattle.x_wire.proofs.messages.fields.state.Goals as goal

pub returns-in_default-clause-err : goal.returns-in_default-clause-err
returns-in_default-clause-err c = λ on. state_cut c.args.last on c.args.bytes.now c.in_default.ensures.none

pub returns-then-state-last-clause-err : goal.returns-then-state-last-clause-err
returns-then-state-last-clause-err c =
    λ on. state_bad c.args.last on c.in-Some.state c.args.bytes.now c.in-Some.rest.now
    c.in-Some.ensures.some.0 c.in-Some.ensures.some.1 c.if-state-last.true

pub returns-clause-ok : goal.returns-clause-ok
returns-clause-ok c =
    λ on. state_reads c.args.last on c.in-Some.state c.args.bytes.now c.in-Some.rest.now
    c.in-Some.ensures.some.0 c.in-Some.ensures.some.1 c.if-state-last.false
