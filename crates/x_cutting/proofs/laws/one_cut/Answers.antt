use Rattle.std.proofs.Common.{refl}
use Rattle.x_cutting.specs.Cutting.{roles_of, counts_from}
use Rattle.x_cutting.proofs.CuttingLemmas.{counts_cut, same_cut}
use Rattle.x_cutting.proofs.laws.one_cut.Goals as goal

pub returns-clause-only : goal.returns-clause-only
returns-clause-only c = same_cut

pub returns-clause-some : goal.returns-clause-some
returns-clause-some c tokens =
    (counts_from 0 0 (roles_of tokens), counts_cut tokens (counts_from 0 0 (roles_of tokens)) refl)
