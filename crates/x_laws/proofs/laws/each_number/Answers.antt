use Rattle.x_laws.proofs.EachNumber.{each_array, each_enumerator, each_size, each_value}
use Rattle.x_laws.proofs.NoFaults.{by_text}
use Rattle.x_laws.proofs.laws.each_number.Goals as goal

pub returns-clause-values : goal.returns-clause-values
returns-clause-values c = by_text each_value

pub returns-clause-sizes : goal.returns-clause-sizes
returns-clause-sizes c = by_text each_size

pub returns-clause-arrays : goal.returns-clause-arrays
returns-clause-arrays c = by_text each_array

pub returns-clause-enumerators : goal.returns-clause-enumerators
returns-clause-enumerators c = by_text each_enumerator
