use Rattle.std.proofs.Common.{ap, ◌≡◌, sym, subst, ◌∙◌}
use Rattle.x_lex.specs.Places.{lexemes}
use Rattle.x_session.specs.Session.{Compiles}
use Rattle.x_compile.specs.KeptText.{items_of}
use Rattle.x_compile.specs.Compile.{tokens_of}
use Rattle.x_compile.proofs.Compiled.{compilation, tokens_are}
use Rattle.x_session.proofs.session.Session.tokens.Goals as goal

pub returns : goal.returns
returns c =
    let items = items_of c.self.inside.texts.text c.self.inside.tokens.list
    c.self.inside.items.entries.list in
    let all = tokens_are c.self.inside.known c.self.inside.texts.text c.self.inside.tokens.list items
    (compilation c.self.invariant) in
    let found = c.iter.ensures.tokens ∙ ap (λ t. lexemes t c.self.inside.tokens.list) c.text.ensures
    ∙ sym all in
    subst (λ v. Compiles v.known v.text (λ is. c.iter.result ≡ tokens_of is)) c.self.view_is
    (c.self.inside.tokens.list, items, (compilation c.self.invariant), found)
