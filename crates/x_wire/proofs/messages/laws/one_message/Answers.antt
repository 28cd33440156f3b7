use Rattle.x_wire.proofs.HeaderLemmas.{one_message_lem}
use Rattle.x_wire.proofs.messages.laws.one_message.Goals as goal

pub returns : goal.returns
returns c = λ bytes g h a b. one_message_lem bytes g h a b
