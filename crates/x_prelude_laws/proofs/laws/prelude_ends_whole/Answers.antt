use Rattle.std.proofs.Common.{[]}
use Rattle.x_prelude_laws.proofs.Nothing.{before_whole}
use Rattle.x_prelude_laws.proofs.Wholes.{ends_whole, whole_none}
use Rattle.x_prelude_laws.proofs.laws.prelude_ends_whole.Goals as goal

pub returns-clause-none : goal.returns-clause-none
returns-clause-none c = ends_whole [] [] whole_none

pub returns-clause-behind : goal.returns-clause-behind
returns-clause-behind c = before_whole
