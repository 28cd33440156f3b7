use Rattle.std.proofs.Common.{inr, refl}
use Rattle.x_documents.proofs.kept.shown.Goals as goal

pub returns-in-Err : goal.returns-in-Err
returns-in-Err c = inr refl
