use Rattle.std.proofs.Common.{refl}
use Rattle.x_wire.specs.HeaderForms.{Whole, trails}
use Rattle.x_wire.proofs.Forms.{reads_nothing}
use Rattle.x_wire.proofs.HeaderLemmas.{some_left}
use Rattle.x_wire.proofs.messages.reading.end.Goals as goal

pub returns-else-is_empty-clause-err : goal.returns-else-is_empty-clause-err
returns-else-is_empty-clause-err c =
    λ h bare. trails refl h c.args.bytes.now (reads_nothing (Whole h) c.args.bytes.now) bare
    (some_left c.args.bytes.now c.is_empty.result c.is_empty.ensures c.if-is_empty.false) refl
