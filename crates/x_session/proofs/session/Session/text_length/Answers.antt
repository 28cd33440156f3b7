use Rattle.std.proofs.Common.{◌≡◌, length, subst, ◌∙◌}
use Rattle.x_pieces.specs.Texts.{text}
use Rattle.x_session.specs.Session.{Compiles}
use Rattle.x_compile.specs.KeptText.{items_of}
use Rattle.x_compile.specs.Generated.{text_of}
use Rattle.x_compile.proofs.Compiled.{compilation}
use Rattle.x_compile.proofs.KeptLemmas.{parts_kept}
use Rattle.x_session.proofs.session.Session.text_length.Goals as goal

pub returns : goal.returns
returns c =
    let items = items_of c.self.inside.texts.text c.self.inside.tokens.list
    c.self.inside.items.entries.list in
    let count = c.text_length.ensures
    ∙ (λ i. length (text c.args.which (c.deref.ensures.value i) (parts_kept c.self.invariant i))) in
    subst (λ v. Compiles v.known v.text
    (λ is. c.text_length.result ≡ length (text_of c.args.which v.base is))) c.self.view_is
    (c.self.inside.tokens.list, items, (compilation c.self.invariant), count)
