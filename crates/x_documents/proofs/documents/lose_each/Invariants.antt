use Rattle.std.proofs.Common.{◌≡◌, length}
use Rattle.x_documents.specs.Views.{views}
use Rattle.x_documents.proofs.DocumentLemmas.{any_before, lost_before}
use Rattle.x_documents.proofs.documents.lose_each.Given as goal

abbrev pub invariant-loop-at : goal.invariant-loop-at
invariant-loop-at l = record {
  lost : views l.documents.items ≡ lost_before l.at (views l.fn.documents.items);
  fell : l.fell ≡ any_before l.at (views l.fn.documents.items);
  length : length l.documents.items ≡ length l.fn.documents.items;
}
