use Rattle.std.proofs.Common.{◌++◌, ap, sym, ◌∙◌}
use Rattle.x_prelude.specs.Prelude.{foreign_text}
use Rattle.x_prelude.proofs.DefinitionLemmas.{added_whole, on_ok}
use Rattle.x_prelude.proofs.definition.add_definition.Goals as goal

pub returns-in-Some : goal.returns-in-Some
returns-in-Some c =
    let m = c.args.mention.now in
    let old = c.args.text.now.items in
    on_ok c.add_keyed.result (λ added. added m.usage
    ∙ ap (λ t. old ++ foreign_text c.args.number m.name.now m.usage t) (sym c.in-Some.is)
    ∙ ap (λ t. old ++ t) (added_whole _ (foreign_text c.args.number m.name.now m.usage c.args.tag)
    (sym c.is_type.ensures ∙ c.if-is_type.false))) c.add_keyed.ensures
