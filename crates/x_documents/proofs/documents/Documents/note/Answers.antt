use Rattle.std.proofs.Common.{rules, subst, sym, w64}
use Rattle.std.proofs.lemmas.Int.{to_z-of_z}
use Rattle.x_frames.specs.Notes.{noted_of}
use Rattle.x_documents.specs.Grounds.{ground_of}
use Rattle.x_documents.specs.Noting.{Notes, Opens}
use Rattle.x_documents.specs.Replies.{said_of}
use Rattle.x_documents.specs.Views.{documents_of}
use Rattle.x_documents.proofs.documents.Documents.note.Goals as goal

pub returns-in-Open-clause-notes : goal.returns-in-Open-clause-notes
returns-in-Open-clause-notes c =
    subst (λ n. Notes c.args.client (ground_of c.args.setting.now) (documents_of c.args.self.now)
    (noted_of n) (said_of c.open.result) (documents_of c.open.new.self))
    (sym c.in-Open.is)
    (subst (λ v. Opens c.args.client (ground_of c.args.setting.now)
    (documents_of c.args.self.now) c.in-Open.uri.now v c.in-Open.text.now (said_of c.open.result)
    (documents_of c.open.new.self))
    (to_z-of_z w64 c.in-Open.version (search rules)) c.open.ensures.opens)
