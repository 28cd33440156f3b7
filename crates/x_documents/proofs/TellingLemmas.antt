-- What is told of faults, one after another.
use Rattle.std.proofs.Common.{◌≡◌, ◌∙◌, ℕ, ◌+◌, ◌<◌, ◌++◌, List, [], ◌∷◌, ap, get_or, length, subst, sym}
use Rattle.std.proofs.Common.{take}
use Rattle.serde_json.specs.Data.{Data}
use Rattle.x_compile.specs.Compile.{Item}
use Rattle.x_compile.specs.declared.fault.FaultPlace.{FaultPlace}
use Rattle.x_explain.specs.Found.{AreFound}
use Rattle.x_explain.specs.declared.found.FoundFault.{FoundFault}
use Rattle.x_explain.proofs.FoundLemmas.{next_at}
use Rattle.x_published.specs.declared.client.Client.{Client}
use Rattle.x_published.specs.Diagnostics.{AreDiagnostics, IsDiagnostic}
use Rattle.x_published.proofs.DiagnosticLemmas.{diagnostics_more, same_diagnostic}
use Rattle.x_documents.specs.Telling.{place_of_found}

-- of one fault more
pub told_more : (c : Client) (uri shown text : List ℕ) (items : List Item) (places : List FaultPlace)
    (faults : List FoundFault) (i : ℕ) (fault none : FoundFault) (ds : List Data) (d : Data)
    → i < length faults → fault ≡ get_or faults i none → AreFound text places faults
    → AreDiagnostics c uri shown text items (take i places) ds
    → IsDiagnostic c uri shown text items (place_of_found fault) d
    → AreDiagnostics c uri shown text items (take (i + 1) places) (ds ++ d ∷ [])
told_more c uri shown text items places faults i fault none ds d lt is found are told =
    let next = next_at text places faults i none lt found in
    let there = same_diagnostic c uri shown text items (place_of_found fault) next.place d
    (ap (λ (f : FoundFault). f.code) is ∙ next.is.code)
    (ap (λ (f : FoundFault). f.start) is ∙ next.is.start) told in
    subst (λ l. AreDiagnostics c uri shown text items l (ds ++ d ∷ [])) (sym next.more)
    (diagnostics_more c uri shown text items (take i places) ds next.place d are there)
