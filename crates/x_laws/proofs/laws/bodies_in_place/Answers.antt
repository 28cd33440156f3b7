use Rattle.x_laws.proofs.Placing.{shown_in_place, one_placing}
use Rattle.x_laws.proofs.laws.bodies_in_place.Goals as goal

pub returns-clause-slices : goal.returns-clause-slices
returns-clause-slices c = shown_in_place

pub returns-clause-one : goal.returns-clause-one
returns-clause-one c = one_placing
