use Rattle.x_wire.proofs.OneFault.{one_fault_lem}
use Rattle.x_wire.proofs.messages.laws.one_fault.Goals as goal

pub returns : goal.returns
returns c = λ bytes at at' code code'. one_fault_lem bytes at at' code code'
