use Rattle.std.proofs.Common.{ap, sym, subst, ◌∙◌}
use Rattle.std.proofs.lemmas.Result.{IfOk-weaker}
use Rattle.x_lex.specs.Places.{lexemes}
use Rattle.x_session.specs.Session.{Compiles}
use Rattle.x_session.specs.Typed.{IsKnownBy}
use Rattle.x_compile.specs.KeptText.{items_of}
use Rattle.x_compile.specs.Known.{known_definitions}
use Rattle.x_compile.proofs.Compiled.{compilation, definitions-items, results-items}
use Rattle.x_compile.proofs.KnownLemmas.{definitions_known}
use Rattle.x_session.proofs.session.Session.into_known.Goals as goal

pub returns : goal.returns
returns c =
    let tokens = c.self.inside.tokens.list in
    let entries = c.self.inside.items.entries.list in
    let all = lexemes c.self.inside.texts.text tokens in
    IfOk-weaker c.of.result _ _
    (λ known is.
    subst (λ v. Compiles v.known v.text (λ items. IsKnownBy items known)) c.self.view_is (
      tokens,
      items_of c.self.inside.texts.text tokens entries,
      compilation c.self.invariant,
      record {
        definitions = ap known_definitions is ∙ definitions_known entries
            ∙ sym (definitions-items all entries);
        outcomes = ap (λ k. k.outcomes) is ∙ sym (results-items all entries);
      },
    ))
    c.of.ensures
