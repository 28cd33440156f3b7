use Rattle.std.proofs.Common.{arith}
use Rattle.x_value.proofs.Bytes.{IsByteList_of}
use Rattle.x_value.proofs.StepLemmas.{body_found, body_shown, node_named}
use Rattle.x_value.proofs.reading.steps.padded_body.Goals as goal

pub returns-clause-ok : goal.returns-clause-ok
returns-clause-ok c = λ s leaf same ks.
    let taken = c.in_ok-body.ensures.ok in
    body_shown s leaf c.args.form.now c.args.len c.args.spot c.compact_body.result c.node.result
    c.args.message.now c.args.bytes.now c.in_ok-body.body.now c.in_ok-body.rest.now c.node.ensures
    (c.compact_body.ensures.shown s c.args.message.now
    (body_found c.args.message.now c.args.bytes.now c.in_ok-body.body.now c.in_ok-body.rest.now c.args.len
    c.requires.rear taken))
    (same c.in_ok-body.body.now) (IsByteList_of c.args.bytes.now (λ i. omega (arith, c.type_inv.bytes i)))
    taken ks

pub returns-clause-named : goal.returns-clause-named
returns-clause-named c = λ n h.
    let k = node_named n c.args.spot c.compact_body.result c.node.result c.node.ensures h
    (c.compact_body.ensures.named n) in
    (k.0, k.1, tt)
