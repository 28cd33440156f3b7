use Rattle.std.proofs.Common.{refl, ◌∙◌}
use Rattle.std.specs.Prelude.{slice_set}
use Rattle.x_units.proofs.UnitLemmas.{big_number_4}
use Rattle.x_wire.proofs.Framed.{took_header, took_begun}
use Rattle.x_wire.proofs.records.framer.Framer.take_header_byte.Goals as goal

pub returns-then-count-eq-HEADER_LEN-clause-took : goal.returns-then-count-eq-HEADER_LEN-clause-took
returns-then-count-eq-HEADER_LEN-clause-took c =
    took_header c.args.self.now c.pass_header.new.self c.args.bytes c.args.count c.args.byte
    c.saturating_add-self.result c.read_u32.result c.args.is_open c.pass_header.result
    c.requires.phase c.requires.ready c.if-count-eq-HEADER_LEN.true c.saturating_add-self.ensures
    (c.read_u32.ensures ∙ big_number_4 (slice_set c.args.bytes c.args.count c.args.byte))
    c.pass_header.ensures.made

pub returns-clause-took : goal.returns-clause-took
returns-clause-took c =
    took_begun c.args.self.now _ c.args.bytes c.args.count c.args.byte c.args.is_open c.requires.phase
    c.requires.ready c.if-count-eq-HEADER_LEN.false
    c.saturating_add-self.ensures refl refl
