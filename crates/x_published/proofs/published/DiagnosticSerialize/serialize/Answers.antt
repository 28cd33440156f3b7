use Rattle.std.proofs.Common.{subst, sym}
use Rattle.std.specs.Prelude.{OnOk, option_map}
use Rattle.serde_json.specs.Events.{SendsValue}
use Rattle.x_positions.specs.PositionData.{range_data}
use Rattle.x_published.specs.Diagnostics.{diagnostic_data, plain_data}
use Rattle.x_published.specs.Published.{message_data, place_data}
use Rattle.x_published.proofs.published.DiagnosticSerialize.serialize.Goals as goal

pub returns-in-OfFault : goal.returns-in-OfFault
returns-in-OfFault g c =
    let w = g.S.Serializer.written in
    let d = c.args.self.now in
    let range = range_data d.range.start d.range.end in
    let related = option_map place_data d.related in
    let r = c.write_with_code.result in
    let old = w c.args.out.now in
    let new = w c.write_with_code.new.out in
    subst (λ m. OnOk r (SendsValue (message_data d.severity range m related) old new)) (sym c.in-OfFault.is)
    (subst (λ t. OnOk r (SendsValue
    (diagnostic_data d.severity c.in-OfFault.message.number range t related) old new))
    c.as_str.ensures.value c.write_with_code.ensures)

pub returns-in-Plain : goal.returns-in-Plain
returns-in-Plain g c =
    let w = g.S.Serializer.written in
    let d = c.args.self.now in
    let range = range_data d.range.start d.range.end in
    let related = option_map place_data d.related in
    let r = c.write_without_code.result in
    let old = w c.args.out.now in
    let new = w c.write_without_code.new.out in
    subst (λ m. OnOk r (SendsValue (message_data d.severity range m related) old new)) (sym c.in-Plain.is)
    (subst (λ t. OnOk r (SendsValue (plain_data d.severity range t related) old new))
    c.as_str-in-Plain.ensures.value c.write_without_code.ensures)
