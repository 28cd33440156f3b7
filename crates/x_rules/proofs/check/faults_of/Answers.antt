use Rattle.std.proofs.Common.{◌≡◌, ℕ, ◌++◌, sym, ap, subst, ◌∙◌}
use Rattle.std.specs.List.{IsAmong, flat_map}
use Rattle.x_outline.specs.Bodies.{enumerators}
use Rattle.x_rules.specs.Cases.{bad_cases_of}
use Rattle.x_rules.specs.Constants.{knowns}
use Rattle.x_outline.specs.Outlines.{outlined}
use Rattle.x_rules.specs.Rules.{Ascends, Breaks}
use Rattle.x_rules.specs.Tables.{seen_by}
use Rattle.x_rules.specs.declared.fault.RuleCode.{RuleCode}
use Rattle.x_rules.specs.declared.fault.RuleCode.TheVariants as codes
use Rattle.x_rules.specs.declared.fault.WordFault.{WordFault}
use Rattle.x_rules.proofs.CaseLemmas.{bad_cases_in, kept_bad_cases, found_bad_case, bad_case_found}
use Rattle.x_rules.proofs.CheckLemmas.{found_breaks, breaks_found, are_faults}
use Rattle.x_rules.proofs.check.faults_of.Goals as goal

pub returns : goal.returns
returns c o t =
    let d = outlined c.args.outline.now in
    let see = seen_by c.args.sights.now in
    let all = enumerators d in
    let bs = c.args.outline.now.bodies.items in
    let found = c.order.new.faults.items in
    let bad = c.in_ok-bad.bad.items in
    let is = c.in_ok-faults.ensures o t in
    let same : c.deref.result.now ≡ found = c.deref.ensures.value in
    let each : (f : WordFault) → IsAmong found f → Breaks d see f.word f.code =
    λ f h. found_breaks d see f (subst (λ l. IsAmong l f) is (c.order.ensures.from f h)) in
    let each_found : (word : ℕ) (code : RuleCode) → Breaks d see word code
    → IsAmong found (record { word = word; code = code }) =
    λ word code h. c.order.ensures.kept (record { word = word; code = code })
    (subst (λ l. IsAmong l (record { word = word; code = code })) (sym is)
    (breaks_found d see word code h)) in
    let bad_is = c.in_ok-bad.ensures all (knowns see all) t.numbers
    (subst Ascends (sym same) c.order.ensures.ascend) in
    let bad_found = bad_is ∙ ap (flat_map (bad_cases_of see (knowns see all) c.deref.result.now))
    c.deref-2.ensures.value ∙ ap (λ l. flat_map (bad_cases_of see (knowns see all) l) bs) same
    ∙ kept_bad_cases see (knowns see all) found bs o.filled
    ∙ ap (flat_map (bad_cases_in see (knowns see all) found)) o.bodies_are in
    let joined = c.in_ok-extend_from_slice.ensures.items ∙ ap (λ l. found ++ l) c.deref-3.ensures.value in
    are_faults d see found bad c.order-2.new.faults.items c.order-2.ensures.ascend
    (λ f h. subst (λ l. IsAmong l f) joined (c.order-2.ensures.from f h))
    (λ f h. c.order-2.ensures.kept f (subst (λ l. IsAmong l f) (sym joined) h))
    each each_found
    (λ f h. found_bad_case d see found f each_found (subst (λ l. IsAmong l f) bad_found h))
    (λ word h. subst (λ l. IsAmong l (record { word = word; code = codes.BadCase })) (sym bad_found)
    (bad_case_found d see found word each h))
