use Rattle.std.proofs.Common.{◌≡◌, length, sym, subst, ◌∙◌}
use Rattle.x_lex.specs.Places.{lexemes}
use Rattle.x_session.specs.Session.{Compiles}
use Rattle.x_compile.specs.KeptText.{items_of}
use Rattle.x_compile.proofs.Compiled.{compilation, length-items}
use Rattle.x_session.proofs.session.Session.item_count.Goals as goal

pub returns : goal.returns
returns c =
    let items = items_of c.self.inside.texts.text c.self.inside.tokens.list
    c.self.inside.items.entries.list in
    let count = c.len.ensures
    ∙ sym (length-items (lexemes c.self.inside.texts.text c.self.inside.tokens.list)
    c.self.inside.items.entries.list) in
    subst (λ v. Compiles v.known v.text (λ is. c.len.result ≡ length is)) c.self.view_is
    (c.self.inside.tokens.list, items, (compilation c.self.invariant), count)
