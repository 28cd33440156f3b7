use Rattle.std.proofs.Common.{◌≡◌, ap, sym, subst, ◌∙◌}
use Rattle.std.proofs.lemmas.Result.{IfOk-weaker}
use Rattle.x_lex.specs.Places.{lexemes}
use Rattle.x_compile.specs.Compile.{definitions_of}
use Rattle.x_compile.specs.KeptText.{items_of}
use Rattle.x_compile.proofs.Compiled.{compilation, definitions-items}
use Rattle.x_follow.specs.Lacking.{is_lacking_name}
use Rattle.x_session.specs.Session.{Compiles}
use Rattle.x_session.proofs.session.Session.lacks.Goals as goal

pub returns-clause-lacks : goal.returns-clause-lacks
returns-clause-lacks c =
    let inside = c.self.inside in
    let entries = inside.items.entries.list in
    let items = items_of inside.texts.text inside.tokens.list entries in
    let name = c.args.name.now in
    IfOk-weaker c.lacks.result _ _
    (λ lacks is. subst
    (λ v. Compiles v.known v.text (λ items. lacks ≡ is_lacking_name (definitions_of items) name))
    c.self.view_is (
      inside.tokens.list,
      items,
      compilation c.self.invariant,
      is ∙ ap (λ ds. is_lacking_name ds name)
          (sym (definitions-items (lexemes inside.texts.text inside.tokens.list) entries)),
    ))
    c.lacks.ensures.lacks
