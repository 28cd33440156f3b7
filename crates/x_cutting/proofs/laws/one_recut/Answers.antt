use Rattle.x_cutting.proofs.RecutLaws.{same_item_patch}
use Rattle.x_cutting.proofs.laws.one_recut.Goals as goal

pub returns : goal.returns
returns g c = same_item_patch
