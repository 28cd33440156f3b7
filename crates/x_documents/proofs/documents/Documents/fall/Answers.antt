use Rattle.std.proofs.Common.{ap, false, ◌∙◌}
use Rattle.std.specs.Prelude.{unwrap_or}
use Rattle.x_documents.specs.Replies.{said_of}
use Rattle.x_documents.specs.Views.{documents_of}
use Rattle.x_documents.proofs.NotingLemmas.{becomes_lost}
use Rattle.x_documents.proofs.SaidLemmas.{shows_note_if}
use Rattle.x_documents.proofs.documents.Documents.fall.Goals as goal

pub returns-clause-note : goal.returns-clause-note
returns-clause-note c = shows_note_if c.unwrap_or-fell.result c.args.why.now
    (said_of c.shown_if.result) c.shown_if.ensures

pub returns-clause-becomes : goal.returns-clause-becomes
returns-clause-becomes c =
    becomes_lost c.args.uri.now (documents_of c.args.self.now)
    (documents_of c.lose.new.self) c.lose.result c.unwrap_or-fell.result c.args.why.now
    (said_of c.shown_if.result)
    c.lose.ensures (λ b e. c.unwrap_or-fell.ensures ∙ ap (λ o. unwrap_or o false) e)
    (λ e. c.unwrap_or-fell.ensures ∙ ap (λ o. unwrap_or o false) e) c.shown_if.ensures
