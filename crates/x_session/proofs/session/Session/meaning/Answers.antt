use Rattle.std.proofs.Common.{◌≡◌, map, ap, sym, subst, ◌∙◌}
use Rattle.x_lex.specs.Places.{lexemes}
use Rattle.x_rules.specs.Results.{meaning_at, result_at}
use Rattle.x_rules.specs.RustViews.{view_meaning}
use Rattle.x_session.specs.Session.{Compiles}
use Rattle.x_compile.specs.KeptText.{items_of}
use Rattle.x_compile.proofs.Compiled.{compilation, results-items}
use Rattle.x_session.proofs.session.Session.meaning.Goals as goal

pub returns : goal.returns
returns c =
    let tokens = c.self.inside.tokens.list in
    let entries = c.self.inside.items.entries.list in
    let all = lexemes c.self.inside.texts.text tokens in
    let found = c.meaning.ensures
    ∙ ap (λ rs. meaning_at (result_at rs) c.args.first.now) (sym (results-items all entries)) in
    subst (λ v. Compiles v.known v.text
    (λ is. view_meaning c.meaning.result ≡ meaning_at (result_at (map (λ i. i.result) is)) c.args.first.now))
    c.self.view_is (
      tokens,
      items_of c.self.inside.texts.text tokens entries,
      (compilation c.self.invariant),
      found,
    )
