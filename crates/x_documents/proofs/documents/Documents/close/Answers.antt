use Rattle.std.proofs.Common.{ap, ◌∙◌}
use Rattle.x_documents.specs.Views.{views}
use Rattle.x_documents.proofs.DocumentLemmas.{views_without}
use Rattle.x_documents.proofs.documents.Documents.close.Goals as goal

pub returns-clause-closed : goal.returns-clause-closed
returns-clause-closed c = ap views c.forget.ensures ∙ views_without c.args.uri.now c.args.self.now.list.items
