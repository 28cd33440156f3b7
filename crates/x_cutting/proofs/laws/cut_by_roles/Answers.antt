use Rattle.x_cutting.proofs.CuttingLemmas.{counts_cut, cut_counts}
use Rattle.x_cutting.proofs.laws.cut_by_roles.Goals as goal

pub returns : goal.returns
returns c tokens cs = (cut_counts tokens cs, counts_cut tokens cs)
