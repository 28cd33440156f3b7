use Rattle.std.proofs.Common.{◌∙◌, sym, arith}
use Rattle.x_value.proofs.Bytes.{IsByteList_of}
use Rattle.x_wire.proofs.Leaves.{body_reads, body_cut, body_bad}
use Rattle.x_wire.proofs.messages.fields.body.Goals as goal

pub returns-in_default-clause-err : goal.returns-in_default-clause-err
returns-in_default-clause-err c =
    λ on. body_cut c.args.length on c.args.bytes.now
    (IsByteList_of c.args.bytes.now (λ i. omega (arith, c.type_inv.bytes i))) c.in_default.ensures.none

pub returns-then-not-is_zeros-clause-err : goal.returns-then-not-is_zeros-clause-err
returns-then-not-is_zeros-clause-err c =
    λ on. body_bad c.args.length on c.in-Some.body.now c.in-Some.filling.now c.in-Some.rest.now
    c.args.bytes.now (IsByteList_of c.args.bytes.now (λ i. omega (arith, c.type_inv.bytes i)))
    c.in-Some.ensures.some.parts c.in-Some.ensures.some.long c.in-Some.ensures.some.full
    (sym c.is_zeros.ensures ∙ c.if-not-is_zeros.true)

pub returns-clause-ok : goal.returns-clause-ok
returns-clause-ok c =
    λ on. body_reads c.args.length on c.in-Some.body.now c.in-Some.filling.now c.in-Some.rest.now
    c.args.bytes.now (IsByteList_of c.args.bytes.now (λ i. omega (arith, c.type_inv.bytes i)))
    c.in-Some.ensures.some.parts c.in-Some.ensures.some.long c.in-Some.ensures.some.full
    (sym c.is_zeros.ensures ∙ c.if-not-is_zeros.false)
