use Rattle.x_documents.proofs.SaidLemmas.{no_memory_is_note}
use Rattle.x_documents.proofs.documents.closed.Goals as goal

pub returns-in-Err-clause-note : goal.returns-in-Err-clause-note
returns-in-Err-clause-note c = no_memory_is_note
