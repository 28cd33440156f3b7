use Rattle.x_wire.proofs.Framed.{took_data}
use Rattle.x_wire.proofs.records.framer.Framer.take_data.Goals as goal

pub returns-clause-took : goal.returns-clause-took
returns-clause-took c =
    took_data c.args.self.now c.enter_fragment.new.self c.args.lacks c.saturating_add-self.result c.args.last
    c.enter_fragment.result c.args.bytes.now
    c.extend_from_slice.new.self.items c.requires.phase c.requires.some c.requires.within
    c.saturating_add-self.ensures
    c.in_ok-extend_from_slice.ensures.items c.enter_fragment.ensures.made
