use Rattle.std.proofs.Common.{◌≡◌, ◌++◌, ◌∙◌, ◌∷◌, [], append-nil, append_assoc, codes, drop, length, map}
use Rattle.std.proofs.Common.{sym, ap, subst, take}
use Rattle.std.specs.Prelude.{None, string_bytes}
use Rattle.std.proofs.lemmas.List.{take_all}
use Rattle.x_compile.specs.Faults.{fault_text}
use Rattle.x_compile.specs.declared.fault.FaultCode.TheVariants.{Rule}
use Rattle.x_session.specs.Foreign.{view_all}
use Rattle.x_rules.specs.declared.fault.RuleCode.TheVariants.{Unknown}
use Rattle.x_published.specs.Diagnostics.{AreForeignHints, diagnostic_data, fault_number}
use Rattle.x_positions.specs.PositionData.{range_data}
use Rattle.x_published.specs.Published.{data_of}
use Rattle.x_published.specs.declared.published.Diagnostic.{Diagnostic}
use Rattle.x_published.specs.declared.published.Message.TheVariants.{OfFault}
use Rattle.x_published.specs.declared.published.Severity.TheVariants.{Hint}
use Rattle.x_published.proofs.DiagnosticLemmas.{begun_so, map-snoc}
use Rattle.x_documents.proofs.HintLemmas.{hint_more}
use Rattle.x_documents.proofs.diagnostics.add_foreign_hints.Goals as goal

pub loop-name-init : goal.loop-name-init
loop-name-init c = ([], tt, sym (append-nil (map data_of c.args.list.now.items)))

pub loop-name-preserved : goal.loop-name-preserved
loop-name-preserved c =
    let e = c.args.marks.now.encoding in
    let shown = c.args.shown.now in
    let text = c.args.text.now in
    let inv = c.loop-name.invariant in
    let message = c.in_ok-foreign_message.field-0 in
    let made : Diagnostic = record
    { severity = Hint; message = OfFault message; range = c.range.result; related = None } in
    let front = fault_text (Rule Unknown) ++ codes ": " in
    let begins : take (length front) (string_bytes message.text) ≡ front =
    subst (λ v. take (length (fault_text v ++ codes ": ")) (string_bytes message.text) ≡ fault_text v
    ++ codes ": ")
    c.in_ok-foreign_message.ensures message.told in
    let sentence = drop (length front) (string_bytes message.text) in
    let said = begun_so front (string_bytes message.text) begins in
    let numbered = message.numbered ∙ ap fault_number c.in_ok-foreign_message.ensures in
    let first = c.range.ensures.start in
    let last = c.range.ensures.end in (
      inv.0 ++ data_of made ∷ [],
      hint_more e shown text c.args.names.now c.loop-name.name-index _ inv.0
          (data_of made) c.loop-name-test.true
          inv.1 (record {
            end = c.token_end.result;
            sentence = sentence;
            token = c.token_end.ensures;
            data_is = λ i. diagnostic_data Hint (numbered i) (range_data (first i) (last i)) (said i) None;
          }),
      ap (map data_of) c.in_ok-push.ensures.items ∙ map-snoc data_of c.loop-name.list.items made
          ∙ ap (λ l. l ++ data_of made ∷ []) inv.2
          ∙ append_assoc (map data_of c.args.list.now.items) inv.0 (data_of made ∷ []),
    )

pub returns : goal.returns
returns c =
    let inv = c.loop-name.invariant in (
      inv.0,
      subst (λ ns. AreForeignHints c.args.marks.now.encoding c.args.shown.now c.args.text.now
          (view_all ns) inv.0)
          (take_all c.loop-name.name-index c.args.names.now c.loop-name-test.false) inv.1,
      inv.2,
    )
