use Rattle.std.proofs.Common.{ap, sym, ◌∙◌}
use Rattle.std.proofs.lemmas.Result.{IfOk-weaker}
use Rattle.std.specs.Cow.{cow_slice_items}
use Rattle.x_trees.specs.View.{view_definition}
use Rattle.x_outline.specs.Bodies as outline
use Rattle.x_rules.specs.Constants.{knowns}
use Rattle.x_rules.specs.Meanings.{body_named, counted_type}
use Rattle.x_rules.specs.Results.{meaning_as}
use Rattle.x_rules.specs.Tables.{seen_by}
use Rattle.x_rules.proofs.MeaningLemmas.{defined_type, type_at, meaning_of_type}
use Rattle.x_rules.proofs.rules.meanings.meaning.Goals as goal

pub returns-in-Typedef : goal.returns-in-Typedef
returns-in-Typedef c =
    let d = view_definition c.args.definition.now in
    let see = seen_by c.args.sights.now in
    let known = knowns see (outline.enumerators d) in
    let name = c.args.name.now in
    IfOk-weaker c.typedef_meaning.result _ _
    (λ kept is numbers bodies low. is (outline.enumerators d) known numbers ∙ defined_type d see known low
    ∙ sym (ap (λ kind. meaning_as d see kind (cow_slice_items name.name) name.word) c.in-Typedef.is))
    c.typedef_meaning.ensures

pub returns-in_default : goal.returns-in_default
returns-in_default c =
    let d = view_definition c.args.definition.now in
    let see = seen_by c.args.sights.now in
    let known = knowns see (outline.enumerators d) in
    let name = c.args.name.now in
    IfOk-weaker c.named_meaning.result _ _
    (λ kept is numbers bodies low.
    is (outline.enumerators d) known numbers
    ∙ ap (counted_type see known) (c.body_named.ensures ∙ ap (λ bs. body_named bs name.word) bodies)
    ∙ type_at d see known name.word low
    ∙ meaning_of_type d see name.kind (cow_slice_items name.name) name.word c.in_default.not-Constant
    c.in_default.not-Typedef c.in_default.not-Program)
    c.named_meaning.ensures
