use Rattle.x_recheck.proofs.StaleLists as lists
use Rattle.x_recheck.proofs.laws.one_stale_list.Goals as goal

pub returns : goal.returns
returns c = lists.one_stale_list
