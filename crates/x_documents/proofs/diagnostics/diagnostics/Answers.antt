use Rattle.std.proofs.Common.{◌++◌, ◌∙◌, ap, map, subst, sym}
use Rattle.x_compile.specs.Compile.{IsCompilation}
use Rattle.x_session.specs.Session.{Document}
use Rattle.x_explain.specs.Found.{AreFound}
use Rattle.x_told.specs.Choosing.{chosen}
use Rattle.x_told.specs.Telling.{told_of}
use Rattle.x_published.specs.Diagnostics.{AreDiagnostics}
use Rattle.x_published.specs.Published.{data_of}
use Rattle.x_published.specs.Unshown.{unshown_data}
use Rattle.x_documents.proofs.diagnostics.diagnostics.Goals as goal

pub returns-clause-diagnostics : goal.returns-clause-diagnostics
returns-clause-diagnostics c =
    let client = c.args.client in
    let uri = c.args.uri.now in
    let hints = c.args.hints.now in
    let text = c.args.session.now.text in
    let others = c.of-others.result in
    let seen = c.of-others.ensures in
    let found = c.in_ok-found.ensures in
    let items = found.1 in
    let places = chosen hints.most (told_of hints.blanks c.args.shown.now items) in
    let ds = map data_of c.in_ok-list.list.items in
    let are = subst (AreFound text places) (sym c.deref.ensures.value) found.3.0 in
    let told = c.in_ok-list.ensures.diagnostics places found.0 items
    (subst (λ (d : Document). AreFound d.text places c.deref.result.now) (sym seen.session) are)
    (subst (λ (d : Document). IsCompilation d.known d.text found.0 items) (sym seen.session) found.2) in (
      found.0,
      items,
      found.2,
      (
        ds,
        subst (λ t. AreDiagnostics client uri t text items places ds) seen.text
            (subst (λ (d : Document). AreDiagnostics client uri others.text.now d.text items places ds)
            seen.session
            told),
        c.in_ok-add_some.ensures ∙ ap (λ l. ds ++ l) (c.in_ok-unshown.ensures ∙ ap unshown_data found.3.1),
      ),
    )
