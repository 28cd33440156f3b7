use Rattle.x_wire.proofs.HeaderLemmas.{one_answer_lem}
use Rattle.x_wire.proofs.messages.laws.one_answer.Goals as goal

pub returns : goal.returns
returns c = λ bytes h body at code. one_answer_lem bytes h body at code
