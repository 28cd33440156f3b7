use Rattle.std.proofs.Common.{◌+◌, ◌∙◌, [], ap, get_or, map, refl, subst, sym, take}
use Rattle.x_compile.specs.Compile.{IsCompilation}
use Rattle.x_compile.specs.declared.fault.FaultCode.TheVariants as fault_codes
use Rattle.x_parser.specs.declared.fault_code.FaultCode.TheVariants as item_codes
use Rattle.x_session.specs.Session.{Document}
use Rattle.x_explain.specs.Found.{IsEndOfToken}
use Rattle.x_explain.specs.declared.found.FoundFault.{FoundFault}
use Rattle.x_explain.proofs.FoundLemmas.{ends_there, found_to_the_last}
use Rattle.x_published.specs.Diagnostics.{AreDiagnostics, IsDiagnostic}
use Rattle.x_published.specs.Published.{data_of}
use Rattle.x_published.proofs.DiagnosticLemmas.{map-snoc}
use Rattle.x_documents.specs.Telling.{IsMarkerFor, place_of_found}
use Rattle.x_documents.proofs.TellingLemmas.{told_more}
use Rattle.x_documents.proofs.diagnostics.diagnostics_of.Goals as goal

-- what stands where there is no fault
abbrev no_fault : FoundFault
no_fault = record { code = fault_codes.Syntax item_codes.Syntax; start = 0; end = 0 }

pub loop-fault-init : goal.loop-fault-init
loop-fault-init c = record {
  others = c.requires.others;
  same = record { shown = refl; text = refl; session = refl; marks = refl };
  marker = c.requires.marker;
  told = λ places tokens items found compiled.
      let others = c.args.others.now in
      subst (λ l. AreDiagnostics c.args.client c.args.uri.now others.text.now others.session.now.text items []
      (map data_of l)) (sym c.in_ok-list.ensures.items) tt;
}

pub diagnostic-requires-clause-end : goal.diagnostic-requires-clause-end
diagnostic-requires-clause-end c =
    let faults = c.args.faults.now in
    let i = c.loop-fault.fault-index in
    let fault = get_or faults i no_fault in
    subst (λ (d : Document). IsEndOfToken d.text fault.start fault.end)
    (sym c.loop-fault.invariant.same.session)
    (ends_there c.args.others.now.session.now.text c.requires.found.0 faults i no_fault c.loop-fault-test.true
    c.requires.found.1)

pub loop-fault-preserved : goal.loop-fault-preserved
loop-fault-preserved c =
    let client = c.args.client in
    let uri = c.args.uri.now in
    let shown = c.args.others.now.text.now in
    let text = c.args.others.now.session.now.text in
    let faults = c.args.faults.now in
    let i = c.loop-fault.fault-index in
    let fault = get_or faults i no_fault in
    let inv = c.loop-fault.invariant in
    let now = c.loop-fault.others in
    let new = c.in_ok-diagnostic.ensures in
    let list = c.loop-fault.list.items in
    let one = c.in_ok-diagnostic.diagnostic in
    let data' = data_of one in
    let listed = ap (map data_of) c.in_ok-push.ensures.items ∙ map-snoc data_of list one in
    record {
      others = new.others;
      same = record {
        shown = new.same.shown ∙ inv.same.shown;
        text = new.same.text ∙ inv.same.text;
        session = new.same.session ∙ inv.same.session;
        marks = new.same.marks ∙ inv.same.marks;
      };
      marker = subst (λ t. IsMarkerFor client t c.diagnostic.new.marker) inv.same.text new.marker;
      told = λ places tokens items found compiled.
          let here = new.diagnostic tokens items
          (subst (λ (d : Document). IsCompilation d.known d.text tokens items)
          (sym inv.same.session) compiled) in
          let is = subst (λ t. IsDiagnostic client uri t text items
          (place_of_found fault) data') inv.same.text
          (subst (λ (d : Document). IsDiagnostic client uri now.text.now d.text items
          (place_of_found fault) data')
          inv.same.session here) in
          subst (AreDiagnostics client uri shown text items (take (i + 1) places)) (sym listed)
          (told_more client uri shown text items places faults i fault no_fault (map data_of list) data'
          c.loop-fault-test.true refl found (inv.told places tokens items found compiled) is);
    }

pub returns-clause-diagnostics : goal.returns-clause-diagnostics
returns-clause-diagnostics c places tokens items found compiled =
    let others = c.args.others.now in
    let text = others.session.now.text in
    subst (λ l. AreDiagnostics c.args.client c.args.uri.now others.text.now text items l
    (map data_of c.loop-fault.list.items))
    (found_to_the_last text places c.args.faults.now c.loop-fault.fault-index c.loop-fault-test.false found)
    (c.loop-fault.invariant.told places tokens items found compiled)
