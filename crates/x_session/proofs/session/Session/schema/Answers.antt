use Rattle.std.proofs.Common.{◌≡◌, ◌<◌, ◌++◌, [], length, sym, subst}
use Rattle.x_lex.specs.Places.{lexemes}
use Rattle.x_schema.specs.Schemas.{IsSchemaOf}
use Rattle.x_compile.specs.Known.{known_definitions}
use Rattle.x_compile.specs.Compile.{faults_of}
use Rattle.x_session.specs.Session.{Compiles}
use Rattle.x_session.specs.Typed.{all_definitions}
use Rattle.x_compile.specs.KeptText.{items_of}
use Rattle.x_compile.proofs.Compiled.{compilation, definitions-items}
use Rattle.x_session.proofs.TypedLemmas.{no_faults}
use Rattle.x_session.proofs.session.Session.schema.Goals as goal

pub returns-then-self-gt0 : goal.returns-then-self-gt0
returns-then-self-gt0 c =
    let items = items_of c.self.inside.texts.text c.self.inside.tokens.list
    c.self.inside.items.entries.list in
    subst (λ v. Compiles v.known v.text (λ is. 0 < length (faults_of v.text is))) c.self.view_is (
      c.self.inside.tokens.list,
      items,
      (compilation c.self.invariant),
      subst (λ n. 0 < n) c.self.invariant.count_is c.if-self-gt0.true,
    )

pub returns-in-Ok : goal.returns-in-Ok
returns-in-Ok c =
    let tokens = lexemes c.self.inside.texts.text c.self.inside.tokens.list in
    let items = items_of c.self.inside.texts.text c.self.inside.tokens.list
    c.self.inside.items.entries.list in
    let none = no_faults c.self.inside.items.faults (faults_of c.self.inside.texts.text items)
    c.self.invariant.count_is c.if-self-gt0.false in
    let types = subst (λ ds. IsSchemaOf (known_definitions c.self.inside.known ++ ds) c.in-Ok.schema)
    (sym (definitions-items tokens c.self.inside.items.entries.list)) c.in-Ok.ensures in
    subst (λ v. Compiles v.known v.text
    (λ is. (faults_of v.text is ≡ []) × IsSchemaOf (all_definitions v.known is) c.in-Ok.schema))
    c.self.view_is
    (c.self.inside.tokens.list, items, (compilation c.self.invariant), (none, types))

pub returns-in-Err : goal.returns-in-Err
returns-in-Err c =
    let items = items_of c.self.inside.texts.text c.self.inside.tokens.list
    c.self.inside.items.entries.list in
    let none = no_faults c.self.inside.items.faults (faults_of c.self.inside.texts.text items)
    c.self.invariant.count_is c.if-self-gt0.false in
    subst (λ v. Compiles v.known v.text (λ is. faults_of v.text is ≡ [])) c.self.view_is
    (c.self.inside.tokens.list, items, (compilation c.self.invariant), none)
