use Rattle.x_compile.proofs.Compiled.{one_compilation}
use Rattle.x_session.proofs.laws.one_compilation.Goals as goal

pub returns : goal.returns
returns c = one_compilation
