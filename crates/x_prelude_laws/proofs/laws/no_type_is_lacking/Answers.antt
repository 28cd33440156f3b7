use Rattle.x_prelude_laws.proofs.Nothing.{no_type_lacking}
use Rattle.x_prelude_laws.proofs.laws.no_type_is_lacking.Goals as goal

pub returns : goal.returns
returns c = no_type_lacking
