use Rattle.std.proofs.Common.{ap, sym, ◌∙◌}
use Rattle.x_documents.specs.Views.{view_document, views}
use Rattle.x_documents.proofs.DocumentLemmas.{put_behind, views_more}
use Rattle.x_documents.proofs.documents.Documents.put.Goals as goal

pub returns-in_ok-push-in-None-clause-put : goal.returns-in_ok-push-in-None-clause-put
returns-in_ok-push-in-None-clause-put c =
    let old = c.args.self.now.list.items in
    ap views c.in_ok-push-in-None.ensures.items ∙ views_more old c.args.document
    ∙ sym (put_behind c.args.uri.now (view_document c.args.document) (views old) c.in-None.ensures)
