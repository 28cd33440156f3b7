use Rattle.std.proofs.Common.{◌≡◌, ap, sym, subst, ◌∙◌}
use Rattle.std.specs.Prelude.{slice_get, option_map}
use Rattle.x_lex.specs.Places.{lexeme, lexemes}
use Rattle.x_session.specs.Session.{Compiles}
use Rattle.x_compile.specs.KeptText.{items_of}
use Rattle.x_compile.specs.Compile.{tokens_of}
use Rattle.x_compile.proofs.Compiled.{compilation, tokens_are}
use Rattle.x_session.proofs.session.Session.token.Goals as goal

pub returns : goal.returns
returns c =
    let items = items_of c.self.inside.texts.text c.self.inside.tokens.list
    c.self.inside.items.entries.list in
    let all = tokens_are c.self.inside.known c.self.inside.texts.text c.self.inside.tokens.list items
    (compilation c.self.invariant) in
    let found = c.token.ensures ∙ ap (λ t. slice_get (lexemes t c.self.inside.tokens.list) c.args.index)
    c.text.ensures ∙ ap (λ ls. slice_get ls c.args.index) (sym all) in
    subst (λ v. Compiles v.known v.text
    (λ is. option_map lexeme c.token.result ≡ slice_get (tokens_of is) c.args.index)) c.self.view_is
    (c.self.inside.tokens.list, items, (compilation c.self.invariant), found)
