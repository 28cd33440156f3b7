use Rattle.std.proofs.Common.{◌≡◌, length, subst}
use Rattle.x_compile.specs.Compile.{faults_of}
use Rattle.x_session.specs.Session.{Compiles}
use Rattle.x_compile.specs.KeptText.{items_of}
use Rattle.x_compile.proofs.Compiled.{compilation}
use Rattle.x_session.proofs.session.Session.fault_count.Goals as goal

pub returns : goal.returns
returns c =
    let items = items_of c.self.inside.texts.text c.self.inside.tokens.list
    c.self.inside.items.entries.list in
    let count = c.self.inside.items.faults in
    subst (λ v. Compiles v.known v.text (λ is. count ≡ length (faults_of v.text is))) c.self.view_is
    (c.self.inside.tokens.list, items, (compilation c.self.invariant), c.self.invariant.count_is)
