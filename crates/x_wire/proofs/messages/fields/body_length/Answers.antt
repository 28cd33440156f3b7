use Rattle.x_wire.proofs.Leaves.{length_reads, length_cut, length_bad}
use Rattle.x_wire.proofs.messages.fields.body_length.Goals as goal

pub returns-in_default-clause-err : goal.returns-in_default-clause-err
returns-in_default-clause-err c = λ on. length_cut on c.args.bytes.now c.in_default.ensures.none

pub returns-then-length-gt-MOST_AUTH_BYTES-clause-err : goal.returns-then-length-gt-MOST_AUTH_BYTES-clause-err
returns-then-length-gt-MOST_AUTH_BYTES-clause-err c =
    λ on. length_bad on c.in-Some.length c.args.bytes.now c.in-Some.rest.now c.in-Some.ensures.some.0
    c.in-Some.ensures.some.1 c.if-length-gt-MOST_AUTH_BYTES.true

pub returns-clause-ok : goal.returns-clause-ok
returns-clause-ok c =
    λ on. length_reads on c.in-Some.length c.args.bytes.now c.in-Some.rest.now c.in-Some.ensures.some.0
    c.if-length-gt-MOST_AUTH_BYTES.false
