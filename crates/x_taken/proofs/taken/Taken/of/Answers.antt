use Rattle.x_taken.specs.TakenNames.{taken_as}
use Rattle.x_taken.proofs.taken.Taken.of.Goals as goal

pub returns : goal.returns
unfolding taken_as
returns c name = c.in_ok-table_of.ensures name
