use Rattle.x_prelude_laws.proofs.Behind.{both_whole, faultless_whole, next_whole}
use Rattle.x_prelude_laws.proofs.laws.files_end_whole.Goals as goal

pub returns-clause-both : goal.returns-clause-both
returns-clause-both c = both_whole

pub returns-clause-faultless : goal.returns-clause-faultless
returns-clause-faultless c = faultless_whole

pub returns-clause-next : goal.returns-clause-next
returns-clause-next c = next_whole
