use Rattle.std.proofs.Common.{ℕ, List, map, take}
use Rattle.x_lex.specs.declared.kind.Kind.{Kind}
use Rattle.x_compile.specs.Compile.{IsCompilation, Item}
use Rattle.x_compile.specs.declared.fault.FaultPlace.{FaultPlace}
use Rattle.x_explain.specs.Found.{AreFound}
use Rattle.x_published.specs.Diagnostics.{AreDiagnostics}
use Rattle.x_published.specs.Published.{data_of}
use Rattle.x_documents.specs.Telling.{AreOfSame, AreOthersFor, IsMarkerFor}
use Rattle.x_documents.proofs.diagnostics.diagnostics_of.Given as goal

-- the faults so far are told
abbrev pub invariant-loop-fault : goal.invariant-loop-fault
invariant-loop-fault l = record {
  others : AreOthersFor l.client l.others;
  same : AreOfSame l.fn.others l.others;
  marker : IsMarkerFor l.client l.fn.others.text.now l.marker;
  told : (places : List FaultPlace) (tokens : List (Kind × ℕ)) (items : List Item)
      → AreFound l.fn.others.session.now.text places l.faults
      → IsCompilation l.fn.others.session.now.known l.fn.others.session.now.text tokens items
      → AreDiagnostics l.client l.uri l.fn.others.text.now l.fn.others.session.now.text items
      (take l.fault-index places) (map data_of l.list.items);
}
