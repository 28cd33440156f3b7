use Rattle.std.proofs.Common.{◌≡◌, ◌≤◌, ◌++◌, length, not, take, drop}
use Rattle.std.specs.Prelude.{bytes_eq, filter}
use Rattle.x_documents.specs.DocumentNames.{name_of}
use Rattle.x_documents.proofs.documents.forget.Given as goal

abbrev pub invariant-documents : goal.invariant-documents
invariant-documents l = record {
  left : l.documents.items ≡ take l.at l.fn.documents.items
      ++ filter (λ d. not (bytes_eq d.name.items (name_of l.fn.uri))) (drop l.at l.fn.documents.items);
  within : l.at ≤ length l.fn.documents.items;
}

abbrev pub decreases-documents : goal.decreases-documents
decreases-documents l = l.at
