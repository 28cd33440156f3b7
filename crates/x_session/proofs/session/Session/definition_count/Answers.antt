use Rattle.std.proofs.Common.{◌≡◌, length, ap, sym, subst, ◌∙◌}
use Rattle.x_lex.specs.Places.{lexemes}
use Rattle.x_compile.specs.Compile.{definitions_of}
use Rattle.x_compile.specs.Definitions.{numbered}
use Rattle.x_session.specs.Session.{Compiles}
use Rattle.x_compile.specs.KeptText.{items_of}
use Rattle.x_compile.proofs.Compiled.{compilation, definitions-items}
use Rattle.x_session.proofs.session.Session.definition_count.Goals as goal

pub returns : goal.returns
returns c =
    let items = items_of c.self.inside.texts.text c.self.inside.tokens.list
    c.self.inside.items.entries.list in
    let found = c.definition_count.ensures
    ∙ ap (λ ds. length (numbered 0 ds))
    (sym (definitions-items (lexemes c.self.inside.texts.text c.self.inside.tokens.list)
    c.self.inside.items.entries.list)) in
    subst (λ v. Compiles v.known v.text
    (λ is. c.definition_count.result ≡ length (numbered 0 (definitions_of is)))) c.self.view_is
    (c.self.inside.tokens.list, items, (compilation c.self.invariant), found)
