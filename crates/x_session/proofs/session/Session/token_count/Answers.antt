use Rattle.std.proofs.Common.{◌≡◌, length, ap, sym, subst, ◌∙◌}
use Rattle.x_session.specs.Session.{Compiles}
use Rattle.x_compile.specs.KeptText.{items_of}
use Rattle.x_compile.specs.Compile.{tokens_of}
use Rattle.x_compile.proofs.Compiled.{compilation, length-lexemes, tokens_are}
use Rattle.x_session.proofs.session.Session.token_count.Goals as goal

pub returns : goal.returns
returns c =
    let items = items_of c.self.inside.texts.text c.self.inside.tokens.list
    c.self.inside.items.entries.list in
    let all = tokens_are c.self.inside.known c.self.inside.texts.text c.self.inside.tokens.list items
    (compilation c.self.invariant) in
    let count = c.len.ensures.count
    ∙ sym (length-lexemes c.self.inside.texts.text 0 c.self.inside.tokens.list) ∙ ap length (sym all) in
    subst (λ v. Compiles v.known v.text (λ is. c.len.result ≡ length (tokens_of is))) c.self.view_is
    (c.self.inside.tokens.list, items, (compilation c.self.invariant), count)
