use Rattle.x_documents.proofs.SaidLemmas.{no_memory_is_note}
use Rattle.x_documents.proofs.documents.Documents.open_lost.Goals as goal

pub returns-in_default-clause-note : goal.returns-in_default-clause-note
returns-in_default-clause-note c = λ n. no_memory_is_note

pub returns-in-Err-clause-note : goal.returns-in-Err-clause-note
returns-in-Err-clause-note c = λ n. no_memory_is_note
