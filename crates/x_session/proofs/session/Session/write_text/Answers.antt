use Rattle.std.proofs.Common.{subst}
use Rattle.x_streams.specs.Writing.{IsWritten}
use Rattle.x_pieces.specs.Texts.{text}
use Rattle.x_session.specs.Session.{Compiles}
use Rattle.x_compile.specs.KeptText.{items_of}
use Rattle.x_compile.specs.Generated.{text_of}
use Rattle.x_compile.proofs.Compiled.{compilation}
use Rattle.x_compile.proofs.KeptLemmas.{parts_kept}
use Rattle.x_session.proofs.session.Session.write_text.Goals as goal

pub returns-clause-written : goal.returns-clause-written
returns-clause-written g c =
    let start = g.S.Sink.state c.args.sink.now in
    let end = g.S.Sink.state c.write_text.new.sink in
    let items = items_of c.self.inside.texts.text c.self.inside.tokens.list
    c.self.inside.items.entries.list in
    let told = subst (λ t. IsWritten c.write_text.result start end t)
    (λ i. text c.args.which (c.deref.ensures.value i) (parts_kept c.self.invariant i))
    c.write_text.ensures.written in
    subst (λ v. Compiles v.known v.text
    (λ is. IsWritten c.write_text.result start end (text_of c.args.which v.base is))) c.self.view_is
    (c.self.inside.tokens.list, items, (compilation c.self.invariant), told)
