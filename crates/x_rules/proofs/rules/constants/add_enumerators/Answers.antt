use Rattle.std.proofs.Common.{◌≡◌, ◌<◌, ◌+◌, ◌^◌, ◌++◌, true, length, map, ap, sym, subst, append-nil, ◌∙◌}
use Rattle.std.proofs.lemmas.Result.{on_ok_weaker}
use Rattle.x_trees.specs.Spell.{spell_body, spell_other_enumerators}
use Rattle.x_trees.specs.View.{view_enumerator, view_body}
use Rattle.x_trees.proofs.Rows.{struct_view, union_parts}
use Rattle.x_outline.specs.Bodies.{enumerators_of, enumerators_from}
use Rattle.x_outline.specs.BodyWalks.{body_at}
use Rattle.x_outline.specs.Parts.{view_enumerator_at}
use Rattle.x_rules.proofs.EnumeratorLemmas.{names_fit}
use Rattle.x_rules.proofs.rules.constants.add_enumerators.Goals as goal

pub returns-in-Enum : goal.returns-in-Enum
returns-in-Enum c =
    let b = c.args.body.now in
    let old = map view_enumerator_at c.args.list.now.items in
    let new = map view_enumerator_at c.add_names.new.list.items in
    let es = map view_enumerator c.in-Enum.enumerators.items in
    on_ok_weaker c.add_names.result
    (λ x filled. let added : c.saturating_add.result + length (spell_other_enumerators es) < 2 ^ 64
    → new ≡ old ++ enumerators_from true c.saturating_add.result es = rw c.deref.ensures.value at x in
    subst (λ body. b.at + length (spell_body (view_body body)) < 2 ^ 64
    → new ≡ old ++ enumerators_of (body_at b.named b.at (view_body body))) (sym c.in-Enum.is)
    (λ fits. let h = names_fit b.at c.saturating_add.result es fits c.saturating_add.ensures in
    added h.1 ∙ ap (λ w. old ++ enumerators_from true w es) h.0) filled.ends)
    c.add_names.ensures

pub returns-in-Struct : goal.returns-in-Struct
returns-in-Struct c filled =
    let b = c.args.body.now in
    let old = map view_enumerator_at c.args.list.now.items in
    sym (append-nil old) ∙ ap (λ body. old ++ enumerators_of (body_at b.named b.at body))
    (sym (ap view_body c.in-Struct.is ∙ struct_view c.in-Struct.field-0))

pub returns-in-Union : goal.returns-in-Union
returns-in-Union c filled =
    let b = c.args.body.now in
    let old = map view_enumerator_at c.args.list.now.items in
    sym (append-nil old) ∙ ap (λ body. old ++ enumerators_of (body_at b.named b.at body))
    (sym (ap view_body c.in-Union.is ∙ union_parts c.in-Union.field-0.value))
