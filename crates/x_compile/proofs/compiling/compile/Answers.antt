use Rattle.std.proofs.Common.{◌≡◌, None, map, ap, sym, subst, ◌∙◌}
use Rattle.std.specs.Borrow.{Bor}
use Rattle.x_cutting.specs.ItemList.{AreOfText}
use Rattle.x_cutting.specs.ItemList as items
use Rattle.x_names.specs.Declarers.{AreShort}
use Rattle.x_compile.specs.Known.{known_names}
use Rattle.x_compile.specs.Checking.{AreChecked, kept_definitions}
use Rattle.x_compile.specs.KeptView.{kept_found}
use Rattle.x_compile.specs.KeptText.{IsKept}
use Rattle.x_compile.specs.declared.content.Content.{Content}
use Rattle.x_compile.proofs.KeptLemmas.{are_known, counts_with, definitions_kept, kept_is, all_lent}
use Rattle.x_compile.proofs.KeptLemmas.{none_kept}
use Rattle.x_compile.proofs.compiling.compile.Goals as goal

pub check_all-requires-clause-short : goal.check_all-requires-clause-short
check_all-requires-clause-short c =
    let same = ap (map (λ (k : Bor Content). k.now)) c.deref-2.ensures.value ∙ c.in_ok-kept_of.ensures
    ∙ ap items.kept c.deref.ensures.value in
    subst (λ ks. AreShort (kept_definitions ks)) (sym same)
    (subst AreShort (sym (definitions_kept c.in_ok-entries.entries.items)) c.in_ok-entries.ensures.short)

pub check_all-requires-clause-unchecked : goal.check_all-requires-clause-unchecked
check_all-requires-clause-unchecked c =
    let same = ap (map (λ (k : Bor Content). k.now)) c.deref-2.ensures.value ∙ c.in_ok-kept_of.ensures
    ∙ ap items.kept c.deref.ensures.value in
    all_lent (λ k. kept_found k ≡ None) c.deref-2.result.now (items.kept c.in_ok-entries.entries.items) same
    (none_kept c.in_ok-entries.entries.items c.in_ok-entries.ensures.unchecked)

pub keep_results-requires : goal.keep_results-requires
keep_results-requires c =
    let ks = items.kept c.in_ok-entries.entries.items in
    let checks = c.in_ok-results.field-0 in
    let same = ap (map (λ (k : Bor Content). k.now)) c.deref-2.ensures.value ∙ c.in_ok-kept_of.ensures
    ∙ ap items.kept c.deref.ensures.value in
    are_known (known_names c.args.known.now) ks checks.results.items checks.faults
    (subst (λ l. AreChecked (known_names c.args.known.now) l checks.results.items checks.faults) same
    c.in_ok-results.ensures.checked)

pub of-requires : goal.of-requires
of-requires c =
    subst AreOfText
    (sym (counts_with c.in_ok-entries.entries.items c.in_ok-results.field-0.results.items
    c.keep_results.new.entries.items c.keep_results.ensures)) c.in_ok-entries.ensures.of_text

pub returns-clause-kept : goal.returns-clause-kept
returns-clause-kept c =
    let text = c.args.source.now in
    let tokens = c.in_ok-tokens.tokens.list in
    let es = c.in_ok-entries.entries.items in
    let checks = c.in_ok-results.field-0 in
    let made = c.in_ok-items.items in
    let same = ap (map (λ (k : Bor Content). k.now)) c.deref-2.ensures.value ∙ c.in_ok-kept_of.ensures
    ∙ ap items.kept c.deref.ensures.value in
    let checked = subst (λ l. AreChecked (known_names c.args.known.now) l checks.results.items checks.faults)
    same c.in_ok-results.ensures.checked in
    subst (λ u. IsKept c.args.known.now text tokens made.entries.list made.faults u)
    (sym c.in_ok-items.ensures.uses)
    (subst (λ n. IsKept c.args.known.now text tokens made.entries.list n None)
    (sym c.in_ok-items.ensures.faults)
    (subst (λ l. IsKept c.args.known.now text tokens l checks.faults None) (sym c.in_ok-items.ensures.list)
    (kept_is c.args.known.now text tokens es checks.results.items checks.faults
    c.keep_results.new.entries.items None c.in_ok-tokens.ensures.tokens c.in_ok-entries.ensures.parsed
    c.in_ok-entries.ensures.short c.in_ok-entries.ensures.of_text checked c.keep_results.ensures tt)))
