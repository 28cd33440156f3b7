use Rattle.x_session.proofs.WorkLaws as work
use Rattle.x_session.proofs.laws.one_work.Goals as goal

pub returns : goal.returns
returns c = work.one_work
