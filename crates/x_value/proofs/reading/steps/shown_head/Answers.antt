use Rattle.std.proofs.Common.{length}
use Rattle.x_value.specs.declared.nodes.compact_node.CompactLeaf.TheVariants.{Union}
use Rattle.x_value.proofs.StepLemmas.{union_named, node_named}
use Rattle.x_value.proofs.reading.steps.shown_head.Goals as goal

pub returns-in-Union-clause-named : goal.returns-in-Union-clause-named
returns-in-Union-clause-named c =
    let u = union_named c.args.schema.now c.args.form c.form_at.result.now c.form_at-in-Union.result.now
    c.in-Union.discriminant c.in-Union.field-1 c.form_at.ensures.sound c.requires.word.value.known
    c.form_at.ensures.form c.in-Union.is c.form_at-in-Union.ensures.form in
    let n = node_named (length c.args.schema.now.names) c.args.spot Union c.node-in-Union.result
    c.node-in-Union.ensures c.requires.word.value.spot.0 tt in
    (n.0, n.1, (u.1, c.compact_discriminant.ensures.named (length c.args.schema.now.names) u.0, tt))
