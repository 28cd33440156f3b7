use Rattle.x_prelude_laws.proofs.Alone.{faultless_alone}
use Rattle.x_prelude_laws.proofs.laws.prelude_is_faultless.Goals as goal

pub returns : goal.returns
returns c = faultless_alone
