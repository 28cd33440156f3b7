use Rattle.std.proofs.Common.{inr, refl}
use Rattle.x_documents.proofs.kept.told.Goals as goal

pub returns-in-NoMemory : goal.returns-in-NoMemory
returns-in-NoMemory c = inr refl
