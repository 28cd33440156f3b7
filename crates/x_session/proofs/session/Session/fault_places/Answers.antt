use Rattle.std.proofs.Common.{◌≡◌, length, subst, sym}
use Rattle.x_lex.specs.Places.{lexemes}
use Rattle.x_compile.specs.Compile.{faults_of, places_of}
use Rattle.x_compile.specs.FaultWalk.{ArePassed}
use Rattle.x_session.specs.Session.{Compiles}
use Rattle.x_compile.specs.KeptText.{items_of}
use Rattle.x_compile.proofs.KeptLemmas.{are_ordered}
use Rattle.x_compile.proofs.Compiled.{compilation}
use Rattle.x_compile.proofs.WalkedItems.{passed_parsed}
use Rattle.x_session.proofs.session.Session.fault_places.Goals as goal

pub of-requires-clause-ordered : goal.of-requires-clause-ordered
of-requires-clause-ordered c = are_ordered c.self.inside.known c.self.inside.texts.text
    c.self.inside.tokens.list c.self.inside.items.entries.list (compilation c.self.invariant)

pub of-requires-clause-passed : goal.of-requires-clause-passed
of-requires-clause-passed c =
    let inside = c.self.inside in
    subst (λ t. ArePassed (lexemes t inside.tokens.list) inside.items.entries.list) (sym c.text.ensures)
    (passed_parsed (lexemes inside.texts.text inside.tokens.list) inside.items.entries.list
    c.self.invariant.parsed)

pub of-requires-clause-count : goal.of-requires-clause-count
of-requires-clause-count c =
    let inside = c.self.inside in
    subst (λ t. inside.items.faults
    ≡ length (faults_of t (items_of t inside.tokens.list inside.items.entries.list))) (sym c.text.ensures)
    c.self.invariant.count_is

pub returns : goal.returns
returns c =
    let items = items_of c.self.inside.texts.text c.self.inside.tokens.list
    c.self.inside.items.entries.list in
    subst (λ v. Compiles v.known v.text (λ is. c.of.result ≡ places_of is)) c.self.view_is (
      c.self.inside.tokens.list,
      items,
      compilation c.self.invariant,
      subst (λ t. c.of.result
          ≡ places_of (items_of t c.self.inside.tokens.list c.self.inside.items.entries.list)) c.text.ensures
          c.of.ensures,
    )
