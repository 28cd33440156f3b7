use Rattle.std.proofs.Common.{Some, subst, sym}
use Rattle.x_frames.specs.declared.notes.NoteKind.TheVariants.{Open}
use Rattle.x_documents.specs.Grounds.{ground_of}
use Rattle.x_documents.specs.Noting.{Misses, Shows, wrong_note}
use Rattle.x_documents.specs.Replies.{said_of}
use Rattle.x_documents.specs.Views.{documents_of}
use Rattle.x_documents.proofs.SaidLemmas.{shows_note}
use Rattle.x_documents.proofs.documents.Documents.miss_of.Goals as goal

pub returns-in-Open-clause-misses : goal.returns-in-Open-clause-misses
returns-in-Open-clause-misses c =
    subst (λ k. Misses k (Some c.args.uri.now) c.args.client (ground_of c.args.setting.now)
    (documents_of c.args.self.now) (said_of c.open_lost.result) (documents_of c.open_lost.new.self))
    (sym c.in-Open.is)
    (c.open_lost.ensures.opens (wrong_note Open) (subst
    (λ t. Shows t (said_of c.shown-why.result)) c.wrong_note.ensures c.shown-why.ensures))

pub returns-in-Open-clause-note : goal.returns-in-Open-clause-note
returns-in-Open-clause-note c = c.open_lost.ensures.note
    (shows_note c.wrong_note.result.now (said_of c.shown-why.result) c.shown-why.ensures)
