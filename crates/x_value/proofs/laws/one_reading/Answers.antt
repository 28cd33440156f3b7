use Rattle.x_value.proofs.OneReading.{one_refusal, one_showing, not_both}
use Rattle.x_value.proofs.laws.one_reading.Goals as goal

pub returns-clause-showing : goal.returns-clause-showing
returns-clause-showing c = one_showing

pub returns-clause-refusal : goal.returns-clause-refusal
returns-clause-refusal c = one_refusal

pub returns-clause-apart : goal.returns-clause-apart
returns-clause-apart c = not_both
