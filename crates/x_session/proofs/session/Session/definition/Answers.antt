use Rattle.std.proofs.Common.{◌≡◌, subst, ◌∙◌}
use Rattle.x_lex.specs.Places.{lexemes}
use Rattle.x_trees.specs.View.{tree_at}
use Rattle.x_compile.specs.Compile.{definition_at}
use Rattle.x_session.specs.Session.{Compiles}
use Rattle.x_compile.specs.KeptText.{items_of}
use Rattle.x_compile.proofs.Compiled.{compilation, definition_found}
use Rattle.x_session.proofs.session.Session.definition.Goals as goal

pub returns : goal.returns
returns c =
    let items = items_of c.self.inside.texts.text c.self.inside.tokens.list
    c.self.inside.items.entries.list in
    let found = c.definition.ensures
    ∙ definition_found (lexemes c.self.inside.texts.text c.self.inside.tokens.list)
    c.self.inside.items.entries.list c.args.index in
    subst (λ v. Compiles v.known v.text (λ is. tree_at c.definition.result ≡ definition_at is c.args.index))
    c.self.view_is (c.self.inside.tokens.list, items, (compilation c.self.invariant), found)
