use Rattle.x_documents.specs.Replies.{said_of}
use Rattle.x_documents.proofs.SaidLemmas.{shows_note_if}
use Rattle.x_documents.proofs.documents.Documents.miss.Goals as goal

pub returns-in-None-clause-note : goal.returns-in-None-clause-note
returns-in-None-clause-note c = shows_note_if c.lose_all.result c.wrong_note.result.now
    (said_of c.shown_if.result) c.shown_if.ensures
