use Rattle.x_laws.proofs.ReadFiles.{none_undeclared, read_whole}
use Rattle.x_laws.proofs.laws.read_files_end_whole.Goals as goal

pub returns-clause-whole : goal.returns-clause-whole
returns-clause-whole c = read_whole

pub returns-clause-names : goal.returns-clause-names
returns-clause-names c = none_undeclared
