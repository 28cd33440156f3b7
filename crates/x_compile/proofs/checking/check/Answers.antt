use Rattle.std.proofs.Common.{◌≡◌, length, map, Some, ap, sym, subst, ◌∙◌}
use Rattle.x_trees.specs.View.{view_definition}
use Rattle.x_trees.specs.Spell.{IsShort}
use Rattle.x_names.specs.DeclarerTable.{first_in}
use Rattle.x_outline.specs.Outlines.{outlined}
use Rattle.x_trees.specs.Seen.{names_of}
use Rattle.x_rules.specs.Results.{result_at, IsOutcome, IsResult}
use Rattle.x_rules.specs.RustViews.{view_view}
use Rattle.x_compile.specs.Known.{known_names}
use Rattle.x_compile.specs.Checking.{view_by_first}
use Rattle.x_compile.specs.KeptView.{found_result, kept_definition}
use Rattle.x_compile.specs.declared.content.CheckResult.{CheckResult}
use Rattle.x_compile.proofs.CheckingLemmas.{some_result}
use Rattle.x_compile.proofs.checking.check.Goals as goal

pub returns-clause-result : goal.returns-clause-result
returns-clause-result c definitions short first =
    let d = view_definition c.in-Some.definition.now in
    let results = result_at (map found_result c.args.results.now) in
    let index = length c.args.results.now in
    let find = first_in c.args.names.now in
    let known = (known_names c.args.known.now) in
    let views = map view_view c.in_ok-views.views.items in
    let outline = c.in_ok-outline.outline in
    let same : outlined outline ≡ d = ap (λ r. view_definition r.now) c.in_ok-outline.ensures.definition in
    let here = λ (fits : IsShort d). c.in_ok-outline.ensures.outline fits in
    let seen = λ (fits : IsShort d). c.in_ok-views.ensures (here fits)
    ∙ (λ i. map (view_by_first known find results index) (names_of (same i))) in
    let checked = λ (fits : IsShort d).
    subst (λ t. IsOutcome t views c.in_ok-checked.checked) same
    (subst (λ vs. IsOutcome (outlined outline) (map view_view vs) c.in_ok-checked.checked)
    c.deref.ensures.value (c.in_ok-checked.ensures.checked (here fits))) in
    let item = kept_definition c.args.item.now in
    subst (λ (f : CheckResult). IsResult known definitions results index item (Some f.checked))
    (sym c.in_ok-new.ensures.ok)
    (some_result known definitions find results index d item views c.in_ok-checked.checked c.in-Some.ensures
    short first seen checked)
