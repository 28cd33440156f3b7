use Rattle.std.proofs.Common.{suc, ◌≡◌, arith}
use Rattle.x_value.proofs.StepLemmas.{struct_begun, array_begun}
use Rattle.x_value.proofs.reading.steps.value.Goals as goal

pub returns-in-Struct-clause-ok : goal.returns-in-Struct-clause-ok
returns-in-Struct-clause-ok c =
    let up : c.in-Some.level ≡ suc c.args.spot.level = let h = c.in-Some.ensures in omega arith in
    struct_begun c.args.schema.now c.args.message.now c.args.form c.form_at.result.now c.in-Struct.field-0
    c.args.spot c.args.bytes.now c.node.result c.in-Some.level c.requires.value.known c.form_at.ensures.form
    c.in-Struct.is c.requires.value.spot up c.node.ensures

pub returns-in-FixedArray-clause-ok : goal.returns-in-FixedArray-clause-ok
returns-in-FixedArray-clause-ok c =
    let up : c.in-Some.level ≡ suc c.args.spot.level = let h = c.in-Some.ensures in omega arith in
    array_begun c.args.schema.now c.args.message.now c.args.form c.form_at.result.now c.in-FixedArray.of
    c.in-FixedArray.count c.args.spot c.args.bytes.now c.node-in-FixedArray.result c.in-Some.level
    c.elements.result c.form_at.ensures.sound c.requires.value.known c.form_at.ensures.form c.in-FixedArray.is
    c.requires.value.spot up c.node-in-FixedArray.ensures c.elements.ensures.fits c.elements.ensures.task
