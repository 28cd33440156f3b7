use Rattle.x_positions.proofs.LineLemmas.{line_found, all_is_line}
use Rattle.x_positions.proofs.positions.first_line.Goals as goal

pub returns-in-Some-clause-line : goal.returns-in-Some-clause-line
returns-in-Some-clause-line c = line_found c.args.rest.now c.in-Some.at c.in-Some.ensures

pub returns-in-None-clause-line : goal.returns-in-None-clause-line
returns-in-None-clause-line c = all_is_line c.args.rest.now c.in-None.ensures
