use Rattle.std.proofs.Common.{[], ap, subst, sym}
use Rattle.std.specs.Prelude.{Some}
use Rattle.std.specs.List.{flat_map}
use Rattle.std.specs.Io.KnownBytes.{Appends}
use Rattle.x_streams.specs.Streams.{Stream}
use Rattle.x_streams.specs.Writing.{Inked, Writes}
use Rattle.x_streams.proofs.Pens.{writes_none}
use Rattle.x_compile.specs.Compile.{faults_of}
use Rattle.x_session.specs.FaultLines.{fault_line}
use Rattle.x_contents.proofs.generated.fault_lines.Goals as goal

pub returns-in-Ok : goal.returns-in-Ok
returns-in-Ok c =
    let told = c.add_faults.ensures in
    let start = c.new-sink.result in
    let end = c.finish.new.sink.bytes in
    let lines = flat_map fault_line (faults_of c.args.session.now.text told.1) in
    let none : Writes start [] c.new-pen.result start = subst (λ (p : Inked). Writes start [] p start)
    (sym c.new-pen.ensures) (writes_none start) in
    let written : Appends start.bytes end lines = c.in-Ok.ensures.written start lines
    (told.3.goes_on start [] none) in
    let from_none : Appends (Some []) end lines = subst (λ o. Appends o end lines)
    (ap (λ (s : Stream). s.bytes) c.new-sink.ensures) written in
    let all : Appends (Some []) (Some c.into_bytes.result.items) lines = subst
    (λ o. Appends (Some []) o lines) c.into_bytes.ensures from_none in
    (told.0, told.1, told.2, all)
