use Rattle.x_wire.proofs.FragmentLemmas.{one_reading, some_reading}
use Rattle.x_wire.proofs.records.records_law.Goals as goal

pub returns : goal.returns
returns c = record { some = some_reading; one = one_reading }
