use Rattle.std.proofs.Common.{◌∙◌, Some, ap, sym, codes}
use Rattle.x_frames.specs.Framing.{is_named}
use Rattle.x_frames.proofs.FrameLemmas.{field_here, field_behind}
use Rattle.x_frames.proofs.head.length_field.Goals as goal

pub returns-then-is_named : goal.returns-then-is_named
returns-then-is_named c =
    ap Some c.of-then-is_named.ensures
    ∙ sym (field_here c.args.bytes.now c.args.fields.now c.loop-field.field-index _ c.loop-field-test.true
    (ap (λ n. is_named n (codes "content-length")) (sym c.of.ensures) ∙ sym c.is_named.ensures
    ∙ c.if-is_named.true))
    ∙ c.loop-field.invariant

pub loop-field-preserved : goal.loop-field-preserved
loop-field-preserved c =
    field_behind c.args.bytes.now c.args.fields.now c.loop-field.field-index _ c.loop-field-test.true
    (ap (λ n. is_named n (codes "content-length")) (sym c.of.ensures) ∙ sym c.is_named.ensures
    ∙ c.if-is_named.false)
    ∙ c.loop-field.invariant
