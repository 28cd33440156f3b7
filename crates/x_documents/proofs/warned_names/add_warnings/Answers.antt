use Rattle.std.proofs.Common.{◌≡◌, ◌∙◌, [], ap, append-nil, length, map, refl, subst, sym, true, false}
use Rattle.x_compile.specs.Compile.{faults_of}
use Rattle.x_session.proofs.DeclaredLemmas.{of_each}
use Rattle.x_warnings.specs.Warnings.{view_warning}
use Rattle.x_published.specs.Published.{data_of}
use Rattle.x_published.specs.Warned.{AreWarned}
use Rattle.x_documents.specs.Publishing.{is_searched}
use Rattle.x_documents.proofs.WarnedLemmas.{if_failed, if_passed, on_ok}
use Rattle.x_documents.proofs.warned_names.add_warnings.Goals as goal

pub returns-then-not-is_searched : goal.returns-then-not-is_searched
returns-then-not-is_searched c =
    let count = c.fault_count.ensures in
    let size = length c.args.shown.now in
    let failed : is_searched c.args.warns size (length (faults_of c.args.session.now.text count.1)) ≡ false =
    sym (c.is_searched.ensures ∙ ap (is_searched c.args.warns size) count.3) ∙ c.if-not-is_searched.true in (
      count.0,
      count.1,
      count.2,
      ([], if_failed _ _ _ failed refl, sym (append-nil (map data_of c.args.list.now.items))),
    )

pub returns : goal.returns
returns c =
    let client = c.args.client in
    let uri = c.args.uri.now in
    let shown = c.args.shown.now in
    let text = c.args.session.now.text in
    let size = length shown in
    let count = c.fault_count.ensures in
    let names = map view_warning c.in_ok-found.found.items in
    let passed : is_searched c.args.warns size (length (faults_of text count.1)) ≡ true =
    sym (c.is_searched.ensures ∙ ap (is_searched c.args.warns size) count.3) ∙ c.if-not-is_searched.false in
    on_ok c.add_found.result c.add_found.ensures (λ added.
    let told = subst (λ t. AreWarned client uri shown t names added.0) c.bytes-text.ensures
    (subst (λ ws. AreWarned client uri shown c.bytes-text.result.now (map view_warning ws) added.0)
    c.deref.ensures.value added.1) in (
      count.0,
      count.1,
      count.2,
      (
        added.0,
        if_passed _ _ _ passed (names, of_each text c.in_ok-found.ensures count.0 count.1 count.2, told),
        added.2,
      ),
    ))
