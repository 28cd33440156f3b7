use Rattle.x_wire.proofs.Leaves.{number_reads, number_cut}
use Rattle.x_wire.proofs.messages.fields.number.Goals as goal

pub returns-in-Some-clause-ok : goal.returns-in-Some-clause-ok
returns-in-Some-clause-ok c =
    λ on. number_reads on c.in-Some.number c.args.bytes.now c.in-Some.rest.now c.in-Some.ensures.some.0
    c.in-Some.ensures.some.1

pub returns-in-None-clause-err : goal.returns-in-None-clause-err
returns-in-None-clause-err c = λ on. number_cut on c.args.bytes.now c.in-None.ensures.none
