use Rattle.x_schema.specs.declared.form.Form.TheVariants.{Array, Opaque, String, Union}
use Rattle.x_schema.specs.Schema.{target_at}
use Rattle.x_value.specs.Shown.{Hex, Text}
use Rattle.x_value.proofs.Unions.{fault_at}
use Rattle.x_value.proofs.reading.heads.fault_of_word.Goals as goal

pub returns-in-Opaque : goal.returns-in-Opaque
returns-in-Opaque c =
    fault_at c.args.schema.now c.args.form c.form_at.result.now (Opaque c.in-Opaque.most) c.args.links
    c.args.word c.fault_of_length.result c.form_at.ensures.form c.in-Opaque.is
    (c.fault_of_length.ensures c.args.schema.now c.args.links Hex)

pub returns-in-String : goal.returns-in-String
returns-in-String c =
    fault_at c.args.schema.now c.args.form c.form_at.result.now (String c.in-String.most) c.args.links
    c.args.word c.fault_of_length-in-String.result c.form_at.ensures.form c.in-String.is
    (c.fault_of_length-in-String.ensures c.args.schema.now c.args.links Text)

pub returns-in-Union : goal.returns-in-Union
returns-in-Union c =
    fault_at c.args.schema.now c.args.form c.form_at.result.now
    (Union c.in-Union.discriminant c.in-Union.arms) c.args.links c.args.word c.fault_of_discriminant.result
    c.form_at.ensures.form c.in-Union.is
    (c.fault_of_discriminant.ensures c.args.links)

pub returns-in-Array : goal.returns-in-Array
returns-in-Array c =
    fault_at c.args.schema.now c.args.form c.form_at.result.now (Array c.in-Array.field-0 c.in-Array.most)
    c.args.links c.args.word c.fault_of_count.result c.form_at.ensures.form c.in-Array.is
    (c.fault_of_count.ensures c.args.schema.now (target_at c.args.schema.now c.in-Array.field-0))
