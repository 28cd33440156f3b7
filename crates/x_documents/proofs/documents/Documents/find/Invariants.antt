use Rattle.x_documents.proofs.DocumentLemmas.{none_before}
use Rattle.x_documents.proofs.documents.Documents.find.Given as goal

abbrev pub invariant-loop-at : goal.invariant-loop-at
invariant-loop-at l = none_before l.uri l.at l.self.list.items
